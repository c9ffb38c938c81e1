-- Orders: a search, one more at the tail, those that stay.
use Prim.Native.Nat.{ℕ, suc, ◌+◌, ◌-◌, ◌≤◌, ◌<◌}
use mathlib.Core.Path.{◌≡◌, sym, ◌∙◌}
use mathlib.Core.Bool.{Bool, true, false, not, cond}
use mathlib.Core.List.{List, [], ◌∷◌, ◌++◌, append-nil}
use native.Mathlib.Omega.{arith}
use native.Mathlib.Numerals.{add-one}
use borrow.Author.Tests.{eq-eqb, ne_eqb}
use lib.Dec.{eqb}
use lib.ListN.{length, get_or, set, take, drop, drop_of_length-le}
use lib.Seq.{length-take-le, drop-cons, take-suc-set, take-set-le, drop-set-lt, get_or-take, append_snoc}
use Rattle.queue.proofs.MemoryLaws.{by_bool}
use Rattle.model.specs.State.{Found, at, nowhere, seek_from}
use Rattle.model.specs.Joining.{keep}

-- ---- a search

pub cut : (l : List ℕ) (n i : ℕ) → i < n → n ≤ length l → drop i (take n l) ≡ get_or l i 0 ∷ drop (i + 1) (take n l)
cut l n i h k =
    let g : length (take n l) ≡ n = length-take-le n l k in
    rw (add-one i) (drop-cons (take n l) i 0 (omega arith) ∙ rw (get_or-take n l i 0 h))

module _ (l : List ℕ) (n i p : ℕ) {x : Found} (inv : x ≡ seek_from (eqb p) i (drop i (take n l))) where
  pub order_here : i < n → n ≤ length l → get_or l i 0 ≡ p → at i ≡ x
  unfolding seek_from
  order_here h k e = sym (inv ∙ rw (cut l n i h k, eq-eqb p (get_or l i 0) (sym e)))

  pub order_on : i < n → n ≤ length l → (get_or l i 0 ≡ p → ⊥) → x ≡ seek_from (eqb p) (i + 1) (drop (i + 1) (take n l))
  unfolding seek_from
  order_on h k e = inv ∙ rw (cut l n i h k, ne_eqb p (get_or l i 0) (λ d. e (sym d)))

  pub order_end : n ≤ length l → n ≤ i → nowhere ≡ x
  unfolding seek_from
  order_end k h =
      let g : length (take n l) ≡ n = length-take-le n l k in
      let d : drop i (take n l) ≡ [] = drop_of_length-le (take n l) {i = i} (omega arith) in
      sym (inv ∙ rw d)

-- ---- the tail

pub pushed : (l : List ℕ) (n p : ℕ) → n < length l → take (n + 1) (set l n p) ≡ take n l ++ (p ∷ [])
pushed l n p h = rw (add-one n) (take-suc-set l n p h)

-- ---- those that stay

module _ (is : ℕ → Bool) where
  rest_cut : (l : List ℕ) (n i : ℕ) → i < n → n ≤ length l → take (n - i) (drop i l) ≡ get_or l i 0 ∷ take (n - (i + 1)) (drop (i + 1) l)
  rest_cut l n i h k =
      let e : n - i ≡ suc (n - (i + 1)) = omega arith in
      rw (e, add-one i) (rw (drop-cons l i 0 (omega arith)))

  abbrev pub packed : (n i k : ℕ) → List ℕ → List ℕ
  packed n i k l = take k l ++ keep is (take (n - i) (drop i l))

  pub packed_turn : (l : List ℕ) (n i k k' : ℕ) {x : List ℕ} → k ≤ i → i < n → n ≤ length l → x ≡ packed n i k l
      → k' ≡ k + cond (is (get_or l i 0)) 1 0
      → x ≡ packed n (i + 1) k' (set l k (get_or l i 0))
  unfolding keep
  packed_turn l n i k k' a b c inv e =
      let v = get_or l i 0 in
      let d : drop (i + 1) (set l k v) ≡ drop (i + 1) l = drop-set-lt (i + 1) l k v (omega arith) in
      by_bool (is v)
      (λ t.
      let f : k' ≡ k + 1 = e ∙ rw t in
      inv ∙ rw (rest_cut l n i b c, t, f, d, pushed l k v (omega arith)) (sym (append_snoc (take k l) v (keep is (take (n - (i + 1)) (drop (i + 1) l))))))
      (λ t.
      let z : k + 0 ≡ k = omega arith in
      let f : k' ≡ k = e ∙ rw t z in
      inv ∙ rw (rest_cut l n i b c, t, f, d, take-set-le k l k v (omega arith)))

  pub packed_start : (l : List ℕ) (n : ℕ) → keep is (take n l) ≡ packed n 0 0 l
  packed_start l n = let e : n - 0 ≡ n = omega arith in rw e

  pub packed_done : (l : List ℕ) (n i k : ℕ) {x : List ℕ} → n ≤ i → x ≡ packed n i k l → take k l ≡ x
  unfolding keep
  packed_done l n i k h inv =
      let e : n - i ≡ 0 = omega arith in
      sym (inv ∙ rw (e, append-nil {A = ℕ} (take k l)))

-- one more, or not
pub kept_yes : (k : ℕ) (b : Bool) → b ≡ true → k + 1 ≡ k + cond b 1 0
kept_yes k b e = rw e

pub kept_no : (k : ℕ) (b : Bool) → b ≡ false → k ≡ k + cond b 1 0
kept_no k b e = rw e (omega arith)

-- all but one place
module _ (p : ℕ) where
  abbrev pub others : ℕ → Bool
  others q = not (eqb q p)

  pub others_start : (l : List ℕ) (n : ℕ) → keep others (take n l) ≡ packed others n 0 0 l
  others_start l n = packed_start others l n

  pub others_turn : (l : List ℕ) (n i k k' : ℕ) {x : List ℕ} → k ≤ i → i < n → n ≤ length l → x ≡ packed others n i k l
      → k' ≡ k + cond (not (eqb (get_or l i 0) p)) 1 0
      → x ≡ packed others n (i + 1) k' (set l k (get_or l i 0))
  others_turn l n i k k' a b c inv e = packed_turn others l n i k k' a b c inv e

  pub others_done : (l : List ℕ) (n i k : ℕ) {x : List ℕ} → n ≤ i → x ≡ packed others n i k l → take k l ≡ x
  others_done l n i k h inv = packed_done others l n i k h inv
