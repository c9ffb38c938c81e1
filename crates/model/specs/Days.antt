-- Opening and closing a day.
use Rattle.std.specs.Prelude.{ℕ, Bool, true, false, ◌||◌, cond, List, ltb, length, replicate, Option, Some, None, Ok, Err}
use Rattle.std.proofs.lemmas.List.Edits.{sets}
use Rattle.chars.specs.declared.Refusal.TheVariants.{WrongMoment}
use Rattle.dates.specs.Dates.{day_of}
use Rattle.book_read.specs.Book.{each, book_check}
use Rattle.book_write.specs.Closing.{bank_of, book_bytes}
use Rattle.book_read.specs.Accounts.{Bank, day_in, streams_in, banks_in, column}
use Rattle.book_read.specs.declared.Field.{Field}
use Rattle.book_read.specs.declared.Field.TheVariants.{Code, Flags, Balance, Sublimit}
use Rattle.settle.specs.Settlement.{Accounts, accounts}
use Rattle.model.specs.Answers.{Answer}
use Rattle.model.specs.declared.Phase.{Phase}
use Rattle.model.specs.declared.Phase.TheVariants.{Fresh, Open, Closed}
use Rattle.model.specs.State.{Day, House, State}

abbrev pub is_fresh : Phase → Bool
is_fresh Fresh = true
is_fresh Open = false
is_fresh Closed = false

-- a column of 64, zero past the banks
abbrev pub column_of : Field → List Bank → List ℕ
column_of f bs = sets (replicate 64 0) 0 (column f bs)

-- "an opening sets the clock anew"; references and BINs stay
unfoldable pub opened : State → (clock : ℕ) → List ℕ → State
opened s clock book = record {
  day = record { phase = Open; date = day_in book; clock = clock; texts = 0 };
  house = record {
    streams = streams_in book;
    banks = length (banks_in book);
    codes = column_of Code (banks_in book);
    flags = column_of Flags (banks_in book);
  };
  books = accounts (column_of Balance (banks_in book)) (column_of Sublimit (banks_in book));
  batches = s.batches;
  known = s.known;
}

-- a day is later than the last opened one; any is, where none was opened
abbrev pub is_later : Day → ℕ → Bool
is_later d day = is_fresh d.phase || ltb d.date day

abbrev pub checked : Answer → Answer → Answer
checked (Ok tt) a = a
checked (Err r) a = Err r

-- 11 to 15; "an opening's date is tested after 15"
unfoldable pub opening_answer : Day → List ℕ → Answer
opening_answer d book = checked (book_check book) (cond (is_later d (day_in book)) (Ok tt) (Err WrongMoment))

-- "a closing book's date not true, either's date not later than the last opened day's"
abbrev pub right_date : Day → Option ℕ → Bool
right_date d (Some k) = ltb d.date k
right_date d None = false

-- "A closing book carries the date given": streams, banks, balances and sub-limits as they stand
abbrev pub on_date : Option ℕ → ℕ
on_date (Some k) = k
on_date None = 0

abbrev pub banks_of : House → Accounts → List Bank
banks_of h a = each (bank_of h.codes h.flags a.balances a.sublimits) 0 h.banks

unfoldable pub closing_text : State → (date : ℕ) → List ℕ
closing_text s date = book_bytes (on_date (day_of date)) s.house.streams (banks_of s.house s.books)
