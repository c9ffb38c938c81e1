-- What a book says: its date, its streams and its banks; and the lent rows that hold them.
use Rattle.std.specs.Prelude.{ℕ, ◌+◌, ◌*◌, List, [], ◌∷◌, map, Bool, ◌&&◌, cond, length, get_or, leb, Option, Some, None, Result, Ok, Err}
use Rattle.std.proofs.lemmas.List.Edits.{sets}
use Rattle.codes.specs.Codes.{short_at}
use Rattle.chars.specs.declared.Refusal.{Refusal}
use Rattle.chars.specs.declared.Refusal.TheVariants.{ShortBuffer}
use Rattle.book_read.specs.declared.Book.{Book}
use Rattle.book_read.specs.declared.Field.{Field}
use Rattle.book_read.specs.declared.Field.TheVariants.{Code, Flags, Balance, Sublimit}
use Rattle.book_read.specs.Block.{entries_at}
use Rattle.book_read.specs.Book.{date_in, balance_at, sublimit_at, blocks_in, bank_place, bank_count, each, book_check}

-- "stream 4, administrator 1 to 255"
pub record Stream : Type 0 where
  pub code : ℕ
  pub sender : ℕ

-- "bank 4, flag 0 active or 1 suspended, stream bits (1 is the first stream) .. balance 8, sub-limit 8"
-- the flags are one number: 1 if the bank is suspended, and twice the stream bits
pub record Bank : Type 0 where
  pub code : ℕ
  pub flags : ℕ
  pub balance : ℕ
  pub sublimit : ℕ

abbrev pub stream_at : List ℕ → ℕ → Stream
stream_at s at = record { code = short_at s at; sender = get_or s (at + 4) 0 }

abbrev pub bank_at : List ℕ → ℕ → Bank
bank_at s at = record {
  code = short_at s at;
  flags = get_or s (at + 4) 0 + 2 * get_or s (at + 5) 0;
  balance = balance_at s at;
  sublimit = sublimit_at s at;
}

-- the day number of the book's date
abbrev pub on_day : Option ℕ → ℕ
on_day (Some k) = k
on_day None = 0

unfoldable pub day_in : List ℕ → ℕ
day_in s = on_day (date_in s)

-- the streams and the banks of a book, in their order
unfoldable pub streams_in : List ℕ → List Stream
streams_in s = each (λ i. stream_at s (8 * i + 16)) 0 (entries_at s 0)

unfoldable pub banks_in : List ℕ → List Bank
banks_in s = each (λ i. bank_at s (bank_place i)) 0 (bank_count s (blocks_in s))

-- a row of streams: code and administrator of each
abbrev pub stream_row : List Stream → List ℕ
stream_row [] = []
stream_row (x ∷ xs) = x.code ∷ x.sender ∷ stream_row xs

-- a column of banks: one field of each
abbrev pub field_of : Field → Bank → ℕ
field_of Code b = b.code
field_of Flags b = b.flags
field_of Balance b = b.balance
field_of Sublimit b = b.sublimit

abbrev pub column : Field → List Bank → List ℕ
column f bs = map (field_of f) bs

-- the lent rows
pub record Rows : Type 0 where
  pub streams : List ℕ
  pub codes : List ℕ
  pub flags : List ℕ
  pub balances : List ℕ
  pub sublimits : List ℕ

abbrev pub rows_of : List ℕ → List ℕ → List ℕ → List ℕ → List ℕ → Rows
rows_of streams codes flags balances sublimits =
    record { streams = streams; codes = codes; flags = flags; balances = balances; sublimits = sublimits }

-- rows of 8 streams and of 64 banks, by their lengths
unfoldable pub room_for : ℕ → ℕ → ℕ → ℕ → ℕ → Bool
room_for streams codes flags balances sublimits =
    leb 16 streams && (leb 64 codes && (leb 64 flags && (leb 64 balances && leb 64 sublimits)))

abbrev pub roomy : Rows → Bool
roomy t =
    room_for (length t.streams) (length t.codes) (length t.flags) (length t.balances) (length t.sublimits)

-- the rows with a book's streams and banks in their first places, and as they were past them
unfoldable pub filled : List ℕ → Rows → Rows
filled s t = record {
  streams = sets t.streams 0 (stream_row (streams_in s));
  codes = sets t.codes 0 (column Code (banks_in s));
  flags = sets t.flags 0 (column Flags (banks_in s));
  balances = sets t.balances 0 (column Balance (banks_in s));
  sublimits = sets t.sublimits 0 (column Sublimit (banks_in s));
}

unfoldable pub book_in : List ℕ → Book
book_in s = record { day = day_in s; streams = entries_at s 0; banks = bank_count s (blocks_in s) }

-- rows and an answer
pub record With (A : Type 0) : Type 0 where
  pub rows : Rows
  pub answer : A

unfoldable pub filled_book : List ℕ → Rows → With Book
filled_book s t = record { rows = filled s t; answer = book_in s }

abbrev pub on_answer : {A : Type 0} → Result (Unit {0}) Refusal → A → (Refusal → A) → A
on_answer (Ok tt) a k = a
on_answer (Err r) a k = k r

-- 07 for a row that is too short, then 11 to 15; a refusal changes nothing
unfoldable pub read_book : List ℕ → Rows → With (Result Book Refusal)
read_book s t =
    cond (roomy t)
    (on_answer (book_check s)
    (record { rows = filled s t; answer = Ok (book_in s) })
    (λ r. record { rows = t; answer = Err r }))
    (record { rows = t; answer = Err ShortBuffer })
