-- A book that is written and read again: "a closing book as the same accounts", by the two functions.
use Rattle.chars.specs.declared.Refusal.{Refusal}
use Rattle.std.specs.Prelude.{ℕ, ◌*◌, ◌≡◌, List, take, Result, Ok}
use Rattle.book_read.specs.declared.Book.{Book}
use Rattle.book_read.specs.Accounts.{Rows, With, read_book}
use Rattle.book_write.specs.Closing.{blocks_for, streams_of, banks_of, write_book}

-- a book's own length
abbrev pub size_of : Book → ℕ
size_of b = 512 * blocks_for b.banks

-- what `write` put into a buffer from the rows t, read into other rows
abbrev pub again : List ℕ → Book → (t into : Rows) → With (Result Book Refusal)
again out b t into = read_book (take (size_of b) (write_book out b t).out) into

pub record Reopened (out : List ℕ) (b : Book) (t into : Rows) : Type 0 where
  pub written : (write_book out b t).answer ≡ Ok (size_of b)
  pub book : (again out b t into).answer ≡ Ok b
  pub streams : streams_of (again out b t into).rows b.streams ≡ streams_of t b.streams
  pub banks : banks_of (again out b t into).rows b.banks ≡ banks_of t b.banks
