-- What the entry point that finds a book's fault answers, and its row.
use Rattle.std.specs.Prelude.{ℕ, List, [], ◌∷◌}
use Rattle.chars.specs.Refusals.{number_of}
use Rattle.book_explain.specs.Faults.{refusal_of, book_finding}
use Rattle.book_explain.specs.declared.Flaw.{Flaw}
use Rattle.book_explain.specs.declared.Flaw.TheVariants.{WrongLength, WrongSum, WrongHead, WrongCount, UntrueDate, AfterDate, Unused, NoCode, NotAbove, NoAdministrator, WrongFlag, NoStream, EntryZeros, HighBalance, HighSublimit, HighTotal}
use Rattle.book_explain.specs.Faults.{Finding}
use Rattle.std.specs.Prelude.{Ok, Err}
use Rattle.c_gateway.specs.Rows.{number_in, row_after}

-- the tests of a book have their numbers in their order
abbrev pub flaw_number : Flaw → ℕ
flaw_number WrongLength = 1
flaw_number WrongSum = 2
flaw_number WrongHead = 3
flaw_number WrongCount = 4
flaw_number UntrueDate = 5
flaw_number AfterDate = 6
flaw_number Unused = 7
flaw_number NoCode = 8
flaw_number NotAbove = 9
flaw_number NoAdministrator = 10
flaw_number WrongFlag = 11
flaw_number NoStream = 12
flaw_number EntryZeros = 13
flaw_number HighBalance = 14
flaw_number HighSublimit = 15
flaw_number HighTotal = 16

abbrev pub spot_words : (block entry test : ℕ) → List ℕ
spot_words block entry test = block ∷ entry ∷ test ∷ []

abbrev pub finding_number : Finding → ℕ
finding_number (Ok u) = 0
finding_number (Err p) = number_of (refusal_of p.flaw)

abbrev pub finding_words : Finding → List ℕ
finding_words (Ok u) = spot_words 0 0 0
finding_words (Err p) = spot_words p.block p.entry (flaw_number p.flaw)

-- 0, or 11 to 15
unfoldable pub fault_number : List ℕ → List ℕ → ℕ
fault_number book row = number_in 3 row (finding_number (book_finding book))

unfoldable pub fault_row : List ℕ → List ℕ → List ℕ
fault_row book row = row_after 3 row (finding_words (book_finding book))
