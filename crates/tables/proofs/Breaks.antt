-- No break of a request's text is 06.
use Prim.Native.Nat.{ℕ}
use mathlib.Core.Path.{◌≡◌, refl, ap, sym, ◌∙◌}
use mathlib.Core.Bool.{Bool, true, false, false≢true}
use mathlib.Core.List.{List, [], ◌∷◌}
use borrow.Author.Tests.{eqb-true}
use lib.Dec.{eqb}
use Rattle.chars.specs.Words.{member}
use Rattle.chars.specs.Refusals.{number_of}
use Rattle.chars.specs.declared.Refusal.{Refusal}
use Rattle.request_read.specs.whole.Request.{request_at}
use Rattle.request_read.specs.declared.whole.Outcome.{Outcome}
use Rattle.request_read.specs.declared.whole.Outcome.TheVariants.{Settlement, Recall, Refused as Broken}
use Rattle.request_read.specs.declared.whole.Reading.{Reading}
use Rattle.thm_first_break.proofs.ReaderNumbers.{request_numbers}

-- another number than 06
abbrev pub Other : Refusal → Type 0
Other r = eqb (number_of r) 6 ≡ false

abbrev pub OtherOutcome : Outcome → Type 0
OtherOutcome Settlement = Unit {0}
OtherOutcome Recall = Unit {0}
OtherOutcome (Broken b) = Other b.refusal

abbrev pub OtherReading : Reading → Type 0
OtherReading r = OtherOutcome r.outcome

not_six : (n : ℕ) → member n (80 ∷ 81 ∷ 87 ∷ 88 ∷ []) ≡ true → eqb n 6 ≡ false
not_six n h = go (eqb n 6) refl
  where
    go : (b : Bool) → eqb n 6 ≡ b → b ≡ false
    go false e = refl
    go true e = absurd (false≢true (ap (λ (k : ℕ). member k (80 ∷ 81 ∷ 87 ∷ 88 ∷ [])) (sym (eqb-true n 6 e)) ∙ h))

pub request_other : (s : List ℕ) → OtherReading (request_at s)
request_other s = go (request_at s).outcome refl
  where
    go : (o : Outcome) → (request_at s).outcome ≡ o → OtherOutcome o
    go Settlement e = tt
    go Recall e = tt
    go (Broken b) e = not_six (number_of b.refusal) (request_numbers s b e)
