-- What an opening leaves in the desk and in the four columns of the accounts.
use Rattle.std.specs.Prelude.{ℕ, ◌≡◌, List, length, Ok, Err}
use Rattle.book_read.specs.Accounts.{Bank, day_in, streams_in, banks_in, stream_row}
use Rattle.book_read.specs.Book.{each}
use Rattle.book_read.specs.declared.Field.TheVariants.{Code, Flags, Balance, Sublimit}
use Rattle.book_write.specs.Closing.{bank_of}
use Rattle.model.specs.Answers.{Answer}
use Rattle.model.specs.declared.Phase.TheVariants.{Open}
use Rattle.model.specs.Days.{column_of}
use Rattle.tables.specs.declared.Desk.{Desk}
use Rattle.tables.specs.Words.{filled}

pub record Columns : Type 0 where
  pub codes : List ℕ
  pub flags : List ℕ
  pub balances : List ℕ
  pub sublimits : List ℕ

abbrev pub columns : (codes flags balances sublimits : List ℕ) → Columns
columns codes flags balances sublimits = record { codes = codes; flags = flags; balances = balances; sublimits = sublimits }

-- "lengths 64"
pub record Full (x : Columns) : Type 0 where
  pub codes : length x.codes ≡ 64
  pub flags : length x.flags ≡ 64
  pub balances : length x.balances ≡ 64
  pub sublimits : length x.sublimits ≡ 64

pub record Begins : Type 0 where
  pub answer : Answer
  pub desk : Desk
  pub columns : Columns

abbrev pub book_desk : (clock : ℕ) (book : List ℕ) → Desk
book_desk clock book = record {
  phase = Open;
  date = day_in book;
  clock = clock;
  texts = 0;
  banks = length (banks_in book);
  streams = filled 16 (stream_row (streams_in book));
  n = length (streams_in book);
}

abbrev pub book_columns : List ℕ → Columns
book_columns book =
    columns (column_of Code (banks_in book)) (column_of Flags (banks_in book)) (column_of Balance (banks_in book)) (column_of Sublimit (banks_in book))

-- C17: "An opening replaces accounts, streams and date .., sets the texts to 0 and the clock as given"; a refusal changes nothing
abbrev pub opened_on : Answer → Desk → (clock : ℕ) (book : List ℕ) → Columns → Begins
opened_on (Ok tt) d clock book x = record { answer = Ok tt; desk = book_desk clock book; columns = book_columns book }
opened_on (Err r) d clock book x = record { answer = Err r; desk = d; columns = x }

-- the banks that the columns hold
abbrev pub banks_on : Desk → Columns → List Bank
banks_on d x = each (bank_of x.codes x.flags x.balances x.sublimits) 0 d.banks
