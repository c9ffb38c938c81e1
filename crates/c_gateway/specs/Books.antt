-- What the entry point of the book check answers.
use Rattle.chars.specs.declared.Refusal.{Refusal}
use Rattle.std.specs.Prelude.{ℕ, List, Result, Ok, Err}
use Rattle.chars.specs.Refusals.{number_of}
use Rattle.book_read.specs.Book.{book_check}

abbrev pub answer_number : Result (Unit {0}) Refusal → ℕ
answer_number (Ok tt) = 0
answer_number (Err f) = number_of f

-- 0, or 11 to 15
unfoldable pub book_number : List ℕ → ℕ
book_number book = answer_number (book_check book)
