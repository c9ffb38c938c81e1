-- Exact tests: joining them, and a rule over a list that is tested from its head.
use Prim.Native.Nat.{ℕ, ◌+◌, ◌≤◌, ◌<◌}
use mathlib.Core.Path.{◌≡◌, refl}
use mathlib.Core.Bool.{Bool, true, false, not}
use mathlib.Core.List.{List, [], ◌∷◌}
use native.Mathlib.Omega.{arith}
use native.Mathlib.Numerals.{add-one}
use borrow.Author.Tests.{not-true, not-false}
use lib.ListN.{length, get_or, drop, drop_of_length-le}
use lib.Seq.{drop-cons}
use Rattle.chars.specs.Words.{Says}
use Rattle.book_read.specs.Range.{Each, Rising}

-- each follows from the other
pub record Both (P Q : Type 0) : Type 0 where
  pub to : P → Q
  pub back : Q → P

pub both_same : (P : Type 0) → Both P P
both_same P = record { to = λ x. x; back = λ x. x }

pub says_no : {P : Type 0} (r : Bool) → Says P r → not r ≡ true → P → ⊥
says_no r s e = rw (not-true r e) at s

pub says_yes : {P : Type 0} (r : Bool) → Says P r → not r ≡ false → P
says_yes r s e = rw (not-false r e) at s

pub says_map : {P Q : Type 0} (r : Bool) → (P → Q) → (Q → P) → Says P r → Says Q r
says_map true f g s = f s
says_map false f g s = λ q. s (g q)

-- two answers of one exact test are equal
pub says_once : (P : Type 0) (a b : Bool) → Says P a → Says P b → a ≡ b
says_once P true true s t = refl
says_once P true false s t = absurd (t s)
says_once P false true s t = absurd (s t)
says_once P false false s t = refl

pub row_cut : (l : List ℕ) (i : ℕ) → i < length l → drop i l ≡ get_or l i 0 ∷ drop (i + 1) l
row_cut l i h = rw add-one (drop-cons l i 0 h)

-- what is left holds exactly where the whole does
module _ {A : Type 0} (P : A → Type 0) {Q : Type 0} {rest : List A} (b : Both Q (Each P rest)) where
  pub each_end : rest ≡ [] → Q
  each_end e = b.back (rw e tt)

  module _ (x : A) (more : List A) (cut : rest ≡ x ∷ more) where
    pub each_not : (P x → ⊥) → Q → ⊥
    each_not h q = h (rw cut at (b.to q)).0

    pub each_on : P x → Both Q (Each P more)
    each_on h = record { to = λ q. (rw cut at (b.to q)).1; back = λ y. b.back (rw cut (h, y)) }

-- the same over the words of a row
module _ (P : ℕ → Type 0) {Q : Type 0} (l : List ℕ) (i : ℕ) (b : Both Q (Each P (drop i l))) where
  pub row_not : i < length l → (P (get_or l i 0) → ⊥) → Q → ⊥
  row_not h n = each_not P b (get_or l i 0) (drop (i + 1) l) (row_cut l i h) n

  pub row_on : i < length l → P (get_or l i 0) → Both Q (Each P (drop (i + 1) l))
  row_on h y = each_on P b (get_or l i 0) (drop (i + 1) l) (row_cut l i h) y

-- codes that rise
pub short_rises : (l : List ℕ) → length l ≤ 1 → Rising l
short_rises [] h = tt
short_rises (x ∷ []) h = tt
short_rises (x ∷ y ∷ l) h = absurd (omega (arith, h))

module _ {Q : Type 0} (rest : List ℕ) (b : Both Q (Rising rest)) where
  pub rising_end : length rest ≤ 1 → Q
  rising_end h = b.back (short_rises rest h)

  module _ (x y : ℕ) (more : List ℕ) (cut : rest ≡ x ∷ y ∷ more) where
    pub rising_not : y ≤ x → Q → ⊥
    rising_not h q = omega (arith, (rw cut at (b.to q)).0)

    pub rising_on : x < y → (next : List ℕ) → next ≡ y ∷ more → Both Q (Rising next)
    rising_on h next e = record { to = λ q. rw e (rw cut at (b.to q)).1; back = λ r. b.back (rw cut (h, rw e at r)) }
