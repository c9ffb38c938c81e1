-- A book that is composed from its account: written from the account's rows, judged by the book's check, read again.
use Rattle.std.specs.Prelude.{ℕ, ◌≤◌, ◌≡◌, List, ◌↔◌, take, Ok}
use Rattle.dates.specs.Dates.{sum}
use Rattle.book_read.specs.declared.Book.{Book}
use Rattle.book_read.specs.declared.Field.TheVariants.{Code, Balance, Sublimit}
use Rattle.book_read.specs.Book.{most_money, book_check}
use Rattle.book_read.specs.Accounts.{Stream, Bank, Rows, column}
use Rattle.book_read.specs.Range.{Each, Rising, stream_codes, InRange}
use Rattle.cli_book.specs.declared.BookAccount.{BookAccount}
use Rattle.book_write.specs.Closing.{streams_of, banks_of, write_book}
use Rattle.thm_books_back.specs.Reopened.{size_of, Reopened}

-- the book that an account asks for, and the rows that it is written from
abbrev pub book_of : BookAccount → Book
book_of a = record { day = a.day; streams = a.streams.n; banks = a.banks.n }

abbrev pub rows_of : BookAccount → Rows
rows_of a = record {
  streams = a.streams.row;
  codes = a.banks.codes;
  flags = a.banks.flags;
  balances = a.banks.balances;
  sublimits = a.banks.sublimits;
}

-- the streams and the banks that an account tells
abbrev pub told_streams : BookAccount → List Stream
told_streams a = streams_of (rows_of a) a.streams.n

abbrev pub told_banks : BookAccount → List Bank
told_banks a = banks_of (rows_of a) a.banks.n

-- what `write` put into a buffer: the bytes that the check judges
abbrev pub composed : List ℕ → BookAccount → List ℕ
composed out a = take (size_of (book_of a)) (write_book out (book_of a) (rows_of a)).out

-- what the reading of an account leaves to the check
pub record Orderly (streams : List Stream) (banks : List Bank) : Type 0 where
  -- "administrator 1 to 255", "Codes rise strictly."
  pub administrators : Each (λ x. 1 ≤ x.sender) streams
  pub streams_rise : Rising (stream_codes streams)
  pub banks_rise : Rising (column Code banks)
  -- "Balances, their total and sub-limits run from 0 to 6,400,000,000,000,000."
  pub sublimits_right : Each (λ x. x ≤ most_money) (column Sublimit banks)
  pub total : sum (column Balance banks) ≤ most_money

pub record Recounted (out : List ℕ) (a : BookAccount) (into : Rows) : Type 0 where
  -- it is written whole: never 06, never 07
  pub written : (write_book out (book_of a) (rows_of a)).answer ≡ Ok (size_of (book_of a))
  -- the check refuses just the accounts that are not in the range of a book: those whose streams and banks are not orderly
  pub judged : (book_check (composed out a) ≡ Ok tt) ↔ InRange a.day (told_streams a) (told_banks a)
  pub range : InRange a.day (told_streams a) (told_banks a) ↔ Orderly (told_streams a) (told_banks a)
  -- a book that it accepts, read into other rows, says the account's day, streams and banks
  pub read : book_check (composed out a) ≡ Ok tt → Reopened out (book_of a) (rows_of a) into
