-- Laws of a line, of ranges and of lists of keys.
use Prim.Native.Nat.{ℕ, ◌-◌, ◌≤◌, ◌<◌}
use mathlib.Core.Path.{◌≡◌, refl, ◌∙◌, ap}
use mathlib.Core.List.{List, [], ◌∷◌, ◌++◌, append_assoc}
use mathlib.Core.Bool.{Bool, true, false, ◌&&◌, cond, and-false, or-true, false≢true}
use mathlib.Core.Logic.{inl, inr}
use native.Mathlib.Omega.{arith}
use borrow.Author.Tests.{le-leb, lt-leb, eq-eqb, ne_eqb, leb-true}
use types.Run.{OneOf}
use lib.Dec.{leb}
use Rattle.chars.specs.Words.{crlf, line, within, member}
use Rattle.chars.specs.Chars.{is_digit, digit_value}

-- a line and what follows it
pub line_apart : (tag v rest : List ℕ) → line tag v ++ rest ≡ tag ++ (v ++ (crlf ++ rest))
line_apart tag v rest = append_assoc tag (v ++ crlf) rest ∙ ap (λ (l : List ℕ). tag ++ l) (append_assoc v crlf rest)

pub in_range : (lo hi b : ℕ) → lo ≤ b → b ≤ hi → within lo hi b ≡ true
in_range lo hi b p q = simp (le-leb lo b p, le-leb b hi q)

pub below_range : (lo hi b : ℕ) → b < lo → within lo hi b ≡ false
below_range lo hi b p = simp (lt-leb lo b p)

pub above_range : (lo hi b : ℕ) → hi < b → within lo hi b ≡ false
above_range lo hi b p = simp (lt-leb b hi p, and-false)

-- what a test of a range says
pub range_low : (lo hi b : ℕ) → within lo hi b ≡ true → lo ≤ b
range_low lo hi b h = go (leb lo b) refl h
  where
    go : (t : Bool) → leb lo b ≡ t → (t && leb b hi) ≡ true → lo ≤ b
    go true e h = leb-true lo b e
    go false e h = absurd (false≢true h)

pub range_high : (lo hi b : ℕ) → within lo hi b ≡ true → b ≤ hi
range_high lo hi b h = go (leb lo b) h
  where
    go : (t : Bool) → (t && leb b hi) ≡ true → b ≤ hi
    go true h = leb-true b hi h
    go false h = absurd (false≢true h)

-- a number that is one of an arm's keys is a member of their list, and one that is none is not
pub is_member : (ks : List ℕ) (x : ℕ) → OneOf ks x → member x ks ≡ true
is_member [] x h = absurd h
is_member (k ∷ []) x e = simp (eq-eqb x k e)
is_member (k ∷ l ∷ ks) x (inl e) = simp (eq-eqb x k e)
is_member (k ∷ l ∷ ks) x (inr h) = simp (is_member (l ∷ ks) x h, or-true)

pub not_member : (ks : List ℕ) (x : ℕ) → (OneOf ks x → ⊥) → member x ks ≡ false
not_member [] x h = refl
not_member (k ∷ []) x h = simp (ne_eqb x k h)
not_member (k ∷ l ∷ ks) x h = simp (ne_eqb x k (λ e. h (inl e)), not_member (l ∷ ks) x (λ o. h (inr o)))

-- none of the keys, each said by itself, as omega reads it
abbrev pub AllNot : List ℕ → ℕ → Type 0
AllNot [] x = Unit {0}
AllNot (k ∷ ks) x = (x ≡ k → ⊥) × AllNot ks x

pub none_of : (ks : List ℕ) (x : ℕ) → (OneOf ks x → ⊥) → AllNot ks x
none_of [] x h = tt
none_of (k ∷ []) x h = (h, tt)
none_of (k ∷ l ∷ ks) x h = (λ e. h (inl e), none_of (l ∷ ks) x (λ o. h (inr o)))

pub digit_low : (b : ℕ) → is_digit b ≡ true → 48 ≤ b
unfolding is_digit
digit_low b h = range_low 48 57 b h

pub digit_high : (b : ℕ) → is_digit b ≡ true → b ≤ 57
unfolding is_digit
digit_high b h = range_high 48 57 b h

-- a digit stands for a number below 10
pub digit_small : (b : ℕ) → digit_value b < 10
unfolding digit_value
digit_small b = go (is_digit b) refl
  where
    go : (t : Bool) → is_digit b ≡ t → cond t (b - 48) 0 < 10
    go true e = omega (arith, digit_high b e)
    go false e = omega arith

pub digit_yes : (b : ℕ) → is_digit b ≡ true → digit_value b ≡ b - 48
unfolding digit_value
digit_yes b e = rw e
