-- The row of a book's fault, and that its number is the number of the book's check.
use Prim.Native.Nat.{ℕ, ◌≤◌}
use mathlib.Core.Path.{◌≡◌, refl, ◌∙◌, ap}
use mathlib.Core.List.{List}
use borrow.Author.Tests.{le-ltb}
use lib.ListN.{length}
use lib.Seq.{sets}
use Rattle.chars.specs.Refusals.{number_of}
use Rattle.chars.specs.declared.Refusal.{Refusal}
use Rattle.book_explain.specs.Faults.{refusal_of, answer_of, book_finding}
use Rattle.book_explain.specs.declared.Spot.{Spot}
use Rattle.book_explain.specs.Faults.{Finding}
use Rattle.std.specs.Prelude.{Ok, Err}
use Rattle.book_explain.proofs.Theorems.{numbers_agree}
use Rattle.c_gateway.specs.Rows.{number_in}
use Rattle.c_gateway.specs.Books.{answer_number, book_number}
use Rattle.c_gateway.specs.Faults.{flaw_number, spot_words, finding_number, finding_words, fault_number}

pub spot_row : (row : List ℕ) (p : Spot) {m n : ℕ} {r : Refusal} {o : List ℕ} → m ≡ flaw_number p.flaw → o ≡ sets row 0 (spot_words p.block p.entry m)
    → r ≡ refusal_of p.flaw → n ≡ number_of r → (n ≡ finding_number (Err p)) × (o ≡ sets row 0 (finding_words (Err p)))
spot_row row p e f g h = (h ∙ ap number_of g, rw e at f)

module _ (row : List ℕ) (f : Finding) {o : List ℕ} where
  pub whole_row : f ≡ Ok tt → o ≡ sets row 0 (spot_words 0 0 0) → (0 ≡ finding_number f) × (o ≡ sets row 0 (finding_words f))
  whole_row e h = rw e (refl, h)

  pub broken_row : {p : Spot} {n : ℕ} → f ≡ Err p → (n ≡ finding_number (Err p)) × (o ≡ sets row 0 (finding_words (Err p)))
      → (n ≡ finding_number f) × (o ≡ sets row 0 (finding_words f))
  broken_row e h = rw e h

same : (f : Finding) → finding_number f ≡ answer_number (answer_of f)
same (Ok u) = refl
same (Err p) = refl

-- with a row that is long enough the number is that of the book check
pub fault_as_checked : (book row : List ℕ) → 3 ≤ length row → fault_number book row ≡ book_number book
unfolding fault_number number_in book_number
fault_as_checked book row h = rw (le-ltb (length row) 3 h) (same (book_finding book) ∙ ap answer_number (numbers_agree book))
