-- "The text has every field once, in this order, and nothing else": what may stand where a line begins, by the lines before it.
use Rattle.std.specs.Prelude.{ℕ, ◌+◌, List, [], ◌∷◌, Bool, true, false, cond, eqb, ltb}
use Rattle.chars.specs.Words.{bytes}
use Rattle.text_scan.specs.Scan.{begins}
use Rattle.text_scan.specs.Spelling.{value_of}
use Rattle.thm_first_break.specs.Rows.{Row, f20, f12, f77e, f22a, f119, f16a, f171, f175, f127, f32b, f113, no113, f102, f203}

-- a row that may stand there, and what is expected behind its line, by the value
pub record Choice (E : Type 0) : Type 0 where
  pub row : Row
  pub next : List ℕ → E

abbrev pub choice : {E : Type 0} → Row → (List ℕ → E) → Choice E
choice f k = record { row = f; next = k }

abbrev pub only : {E : Type 0} → Row → (List ℕ → E) → List (Choice E)
only f k = choice f k ∷ []

-- a field by its tag: whether a settlement is asked for, the stream, how many payments stand before it, whether the payment is a debit
pub data Expecting : Type 0 where
  at20 : Expecting
  at12 : Expecting
  at77e : Bool → Expecting
  at22a : Bool → Expecting
  at119 : Bool → List ℕ → Expecting
  at16a : Expecting
  at171 : Expecting
  at175 : Expecting
  at127 : Expecting
  at32b : ℕ → Bool → Expecting
  at113 : ℕ → Bool → Expecting
  at102 : ℕ → Expecting
  at203 : ℕ → Expecting
  at_end : Expecting

-- "127, 32B, 113, 102: one payment, 1 to 10 times"; behind k of them a further one, and what follows its bank
abbrev pub payment : ℕ → Choice Expecting
payment k = choice f127 (λ v. at32b k (begins (bytes "DR") v))

abbrev pub bank : ℕ → Choice Expecting
bank k = choice f102 (λ v. at203 (k + 1))

abbrev pub count : ℕ → Choice Expecting
count k = choice (f203 k) (λ v. at_end)

-- "A recall ends after 119."; "the line may be missing" is said of 175; "113 stands after DR and never after CR"
abbrev pub choices : Expecting → List (Choice Expecting)
choices at20 = only f20 (λ v. at12)
choices at12 = only (f12 (131 ∷ 133 ∷ [])) (λ v. at77e (eqb (value_of 0 v) 131))
choices (at77e settles) = only f77e (λ v. at22a settles)
choices (at22a settles) = only f22a (λ v. at119 settles v)
choices (at119 settles stream) = only (f119 stream) (λ v. cond settles at16a at_end)
choices at16a = only f16a (λ v. at171)
choices at171 = only f171 (λ v. at175)
choices at175 = choice f175 (λ v. at127) ∷ payment 0 ∷ []
choices at127 = payment 0 ∷ []
choices (at32b k debit) = only f32b (λ v. at113 k debit)
choices (at113 k true) = only f113 (λ v. at102 k)
choices (at113 k false) = choice no113 (λ v. at_end) ∷ bank k ∷ []
choices (at102 k) = bank k ∷ []
choices (at203 k) = cond (ltb k 10) (payment k ∷ count k ∷ []) (count k ∷ [])
choices at_end = []
