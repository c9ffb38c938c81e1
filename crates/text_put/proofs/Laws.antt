-- Runs of stores: from the first byte on, and digits from the last to the first.
use Prim.Native.Nat.{ℕ, zero, suc, ◌+◌, ◌-◌, ◌/◌, ◌%◌, ◌≤◌, ◌<◌}
use mathlib.Core.Path.{◌≡◌, refl, ap, sym, ◌∙◌}
use mathlib.Core.List.{List, [], ◌∷◌, ◌++◌}
use native.Mathlib.Nat.{add-zero, add-suc, suc-add}
use native.Mathlib.Numerals.{add-one}
use native.Mathlib.Omega.{arith}
use lib.ListN.{length, get_or, set, drop, length-append, length-set, drop_of_length-le}
use lib.Seq.{sets, drop-cons, set_comm}
use Rattle.text_put.specs.Digits.{digits_of}

-- what lies past the end is not stored
pub set_past : (l : List ℕ) (i v : ℕ) → length l ≤ i → l ≡ set l i v
set_past [] i v h = refl
set_past (x ∷ l) zero v h = absurd (omega arith)
set_past (x ∷ l) (suc i) v h = ap (λ (r : List ℕ). x ∷ r) (set_past l i v (omega arith))

-- where a loop stands that has stored the first i bytes of a text
pub record Putting (first text : List ℕ) (at : ℕ) (out : List ℕ) (i : ℕ) : Type 0 where
  pub inside : i ≤ length text
  pub size : length out ≡ length first
  pub same : sets out (at + i) (drop i text) ≡ sets first at text

pub putting_start : (out text : List ℕ) (at : ℕ) → Putting out text at out 0
putting_start out text at = record { inside = omega arith; size = refl; same = simp add-zero }

module _ {first text : List ℕ} {at : ℕ} {out : List ℕ} {i : ℕ} (g : Putting first text at out i) where
  pub putting_on : {b : ℕ} {next : List ℕ} → i < length text → b ≡ get_or text i 0 → next ≡ set out (at + i) b → Putting first text at next (i + 1)
  putting_on {b = b} h p q = record {
    inside = omega arith;
    size = rw (q, length-set) g.size;
    same = rw (q, p, add-one, add-suc) (simp (drop-cons text i 0 h) at g.same);
  }

  pub putting_done : length text ≤ i → out ≡ sets first at text
  putting_done h = simp (drop_of_length-le text h) at g.same

-- ---- texts one after another

pub sets_append : (vs ws l : List ℕ) (i : ℕ) → sets l i (vs ++ ws) ≡ sets (sets l i vs) (i + length vs) ws
sets_append [] ws l i = simp add-zero
sets_append (v ∷ vs) ws l i = simp (sets_append vs ws (set l i v) (suc i), add-suc, suc-add)

-- a text after what is written already
pub then : (out p q : List ℕ) (at : ℕ) {o₁ o₂ : List ℕ} {a : ℕ} → o₁ ≡ sets out at p → o₂ ≡ sets o₁ a q → a ≡ at + length p → o₂ ≡ sets out at (p ++ q)
then out p q at e f x = f ∙ simp (e, x) (sym (sets_append p q out at))

-- ---- digits

sets_snoc : (vs l : List ℕ) (i d : ℕ) → sets l i (vs ++ (d ∷ [])) ≡ sets (set l (i + length vs) d) i vs
sets_snoc [] l i d = simp add-zero
sets_snoc (v ∷ vs) l i d =
    sets_snoc vs (set l i v) (suc i) d
    ∙ ap (λ (r : List ℕ). sets r (suc i) vs) (simp (suc-add, add-suc) (set_comm l i (suc (i + length vs)) v d (omega arith)))

pub digits_length : (k v : ℕ) → length (digits_of k v) ≡ k
unfolding digits_of
digits_length zero v = refl
digits_length (suc k) v = simp (length-append, digits_length k (v / 10), add-one)

-- the last i digits of what is left, stored from the last to the first
abbrev pub from_last : ℕ → ℕ → ℕ → List ℕ → List ℕ
from_last zero v at out = out
from_last (suc i) v at out = from_last i (v / 10) at (set out (at + i) (v % 10 + 48))

pub from_last_lem : (k v at : ℕ) (out : List ℕ) → from_last k v at out ≡ sets out at (digits_of k v)
unfolding digits_of
from_last_lem zero v at out = refl
from_last_lem (suc k) v at out =
    from_last_lem k (v / 10) at (set out (at + k) (v % 10 + 48))
    ∙ sym (sets_snoc (digits_of k (v / 10)) out at (v % 10 + 48) ∙ simp (digits_length k (v / 10)))

pub from_down : (i v at : ℕ) (out : List ℕ) → 0 < i → from_last i v at out ≡ from_last (i - 1) (v / 10) at (set out (at + (i - 1)) (v % 10 + 48))
from_down zero v at out h = absurd (omega arith)
from_down (suc i) v at out h = let z : suc i - 1 ≡ i = omega arith in simp z

pub from_none : (i v at : ℕ) (out : List ℕ) → i ≡ 0 → from_last i v at out ≡ out
from_none i v at out e = rw e

-- three texts one after another
pub three : (out p q r : List ℕ) (at : ℕ) {o₁ o₂ o₃ : List ℕ} {a b : ℕ} → o₁ ≡ sets out at p → o₂ ≡ sets o₁ a q → o₃ ≡ sets o₂ b r → a ≡ at + length p → b ≡ a + length q → o₃ ≡ sets out at (p ++ (q ++ r))
three out p q r at e f g x y = g ∙ simp (f, y, e, x) (sym (sets_append p (q ++ r) out at ∙ sets_append q r (sets out at p) (at + length p)))
