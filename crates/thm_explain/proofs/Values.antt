-- What a well-formed value says of the lines that follow.
use Prim.Native.Nat.{ℕ}
use mathlib.Core.Path.{◌≡◌, refl, ap, sym, ◌∙◌}
use mathlib.Core.List.{List, [], ◌∷◌, ◌++◌}
use mathlib.Core.Bool.{Bool, true, false, ◌||◌, false≢true}
use mathlib.Core.Logic.{inl, inr}
use borrow.Author.Tests.{eqb-true}
use lib.Dec.{eqb}
use Rattle.chars.specs.Words.{bytes, member, crlf}
use Rattle.text_scan.specs.Scan.{begins}
use Rattle.text_scan.specs.Spelling.{value_of}
use Rattle.text_put.specs.Digits.{digits_of}
use Rattle.text_values.specs.Grammar.{IsNumeral, IsSide}
use Rattle.thm_first_break.specs.Rows.{IsOutcome}
use Rattle.response_read.proofs.Digits.{digits_back}
use Rattle.text_explain.specs.Stages.{settles_in}

-- three digits by their number
spelt : (v : List ℕ) (n : ℕ) → IsNumeral 3 v → eqb (value_of 0 v) n ≡ true → v ≡ digits_of 3 n
spelt v n g h = sym (digits_back v g.all) ∙ ap (λ (k : ℕ). digits_of k (value_of 0 v)) g.size ∙ ap (digits_of 3) (eqb-true (value_of 0 v) n h)

module _ (v r : List ℕ) (g : IsNumeral 3 v) where
  -- of two sub types just the first settles
  settles_by : (a b : ℕ) → settles_in (digits_of 3 a ++ (crlf ++ r)) ≡ true → settles_in (digits_of 3 b ++ (crlf ++ r)) ≡ false → member (value_of 0 v) (a ∷ b ∷ []) ≡ true
      → settles_in (v ++ (crlf ++ r)) ≡ eqb (value_of 0 v) a
  settles_by a b does other k = go (eqb (value_of 0 v) a) (eqb (value_of 0 v) b) refl refl k
    where
      go : (x y : Bool) → eqb (value_of 0 v) a ≡ x → eqb (value_of 0 v) b ≡ y → (x || (y || false)) ≡ true → settles_in (v ++ (crlf ++ r)) ≡ x
      go true y h i k = ap (λ (l : List ℕ). settles_in (l ++ (crlf ++ r))) (spelt v a g h) ∙ does
      go false true h i k = ap (λ (l : List ℕ). settles_in (l ++ (crlf ++ r))) (spelt v b g i) ∙ other
      go false false h i k = absurd (false≢true k)

  pub asks : member (value_of 0 v) (131 ∷ 133 ∷ []) ≡ true → settles_in (v ++ (crlf ++ r)) ≡ eqb (value_of 0 v) 131
  unfolding begins digits_of
  asks = settles_by 131 133 refl refl

  pub answers : member (value_of 0 v) (132 ∷ 134 ∷ []) ≡ true → settles_in (v ++ (crlf ++ r)) ≡ eqb (value_of 0 v) 132
  unfolding begins digits_of
  answers = settles_by 132 134 refl refl

pub side : (v r : List ℕ) → IsSide v → begins (bytes "DR") (v ++ (crlf ++ r)) ≡ begins (bytes "DR") v
unfolding begins
side v r (inl e) = rw e
side v r (inr e) = rw e

pub outcome : (v r : List ℕ) → IsOutcome v → begins (bytes "0") (v ++ (crlf ++ r)) ≡ begins (bytes "0") v
unfolding begins
outcome v r (inl e) = rw e
outcome v r (inr e) = rw e
