-- Laws of the memory, in the terms of the code.
use mathlib.Core.Path.{◌≡◌, refl, sym, ap, ◌∙◌}
use mathlib.Core.Bool.{Bool, true, false, ◌||◌, or-true, or-false, or_assoc}
use mathlib.Core.List.{List, [], ◌∷◌, ◌++◌, map, append_assoc, append-nil}
use Prim.Native.Nat.{ℕ, zero, suc, ◌+◌, ◌-◌, ◌≤◌, ◌<◌}
use native.Mathlib.Omega.{arith}
use native.Mathlib.Numerals.{add-one}
use lib.Dec.{eqb}
use lib.ListN.{length, get_or, set, take, drop, replicate, length-set, length-replicate, get_or-eq_default}
use lib.Seq.{take-suc-set, drop-set-lt, drop-cons, take-length, drop-length, get_or-set_same, get_or-set_other}
use borrow.Author.Tests.{eq-eqb, ne_eqb, eqb-true, eqb-false}
use Rattle.settle.specs.Payments.{Payment, credit, debit, payment_at, row_payments, bank_of}
use Rattle.settle.specs.Rules.{Ranged}
use Rattle.settle.proofs.Laws.{is_credit, is_debit}
use Rattle.queue.specs.Memory.{credited_by, credited, marked_by, marked, is_marked, wake}

-- a case split that keeps its equation
pub by_bool {ℓ} : {X : Type ℓ} (b : Bool) → (b ≡ true → X) → (b ≡ false → X) → X
by_bool true f g = f refl
by_bool false f g = g refl

pub wake_yes : (f : ℕ → Bool) (k : ℕ) → f k ≡ true → wake f (suc k) ≡ 0
unfolding wake
wake_yes f k e = rw e

pub wake_no : (f : ℕ → Bool) (k : ℕ) → f k ≡ false → wake f (suc k) ≡ suc k
unfolding wake
wake_no f k e = rw e

-- one number, and what happened to some banks
module _ (f : ℕ → Bool) where
  pub woken_none : (h : ℕ) → h ≡ 0 → 0 ≡ wake f h
  unfolding wake
  woken_none h e = rw e

  pub woken_away : (h : ℕ) → (h ≡ 0 → ⊥) → f (h - 1) ≡ true → 0 ≡ wake f h
  woken_away zero n e = absurd (n refl)
  woken_away (suc k) n e = sym (wake_yes f k (ap f (omega arith) ∙ e))

  pub woken_stays : (h : ℕ) → (h ≡ 0 → ⊥) → f (h - 1) ≡ false → h ≡ wake f h
  woken_stays zero n e = absurd (n refl)
  woken_stays (suc k) n e = sym (wake_no f k (ap f (omega arith) ∙ e))

module _ (bank : ℕ) where
  pub woken_yes : (h : ℕ) → (h ≡ 0 → ⊥) → h - 1 ≡ bank → 0 ≡ wake (eqb bank) h
  woken_yes h n e = woken_away (eqb bank) h n (eq-eqb bank (h - 1) (sym e))

  pub woken_no : (h : ℕ) → (h ≡ 0 → ⊥) → (h - 1 ≡ bank → ⊥) → h ≡ wake (eqb bank) h
  woken_no h n e = woken_stays (eqb bank) h n (ne_eqb bank (h - 1) (λ q. e (sym q)))

pub woken_past : (marks : List Bool) (h : ℕ) → (h ≡ 0 → ⊥) → length marks ≤ h - 1 → h ≡ wake (is_marked marks) h
woken_past marks h n e = woken_stays (is_marked marks) h n (get_or-eq_default marks false e)

-- a loop that stores f of each number: x is what it leaves
module _ (f : ℕ → ℕ) (m : List ℕ) (i : ℕ) (x : List ℕ) (inv : x ≡ take i m ++ map f (drop i m)) where
  pub map_turn : (v : ℕ) → i < length m → v ≡ f (get_or m i 0) → x ≡ take (i + 1) (set m i v) ++ map f (drop (i + 1) (set m i v))
  map_turn v h e =
      inv
      ∙ ap (λ (l : List ℕ). take i m ++ map f l) (drop-cons m i 0 h)
      ∙ ap (λ (y : ℕ). take i m ++ (y ∷ map f (drop (suc i) m))) (sym e)
      ∙ sym (append_assoc (take i m) (v ∷ []) (map f (drop (suc i) m)))
      ∙ rw (add-one i, take-suc-set m i v h, drop-set-lt (suc i) m i v (omega arith))

  pub map_done : i ≤ length m → length m ≤ i → m ≡ x
  map_done a b = let e : i ≡ length m = omega arith in sym (inv ∙ rw (e, take-length, drop-length, append-nil {A = ℕ}))

-- the marks of a batch's payments
module _ (t : List ℕ) (at : ℕ) (marks : List Bool) where
  pub paid_marks : get_or t (at + 2) 0 ≡ 0 → set marks (get_or t at 0) true ≡ marked_by (payment_at t at) marks
  unfolding marked_by payment_at
  paid_marks e = rw (is_credit (get_or t at 0) (get_or t (at + 1) 0) (get_or t (at + 2) 0) e)

  pub paid_skips : (get_or t (at + 2) 0 ≡ 0 → ⊥) → marks ≡ marked_by (payment_at t at) marks
  unfolding marked_by payment_at
  paid_skips e = rw (is_debit (get_or t at 0) (get_or t (at + 1) 0) (get_or t (at + 2) 0) e)

  module _ (rest behind : List Payment) (x : List Bool) (inv : x ≡ marked rest marks) where
    pub marks_turn : rest ≡ payment_at t at ∷ behind → (marks' : List Bool) → marks' ≡ marked_by (payment_at t at) marks → x ≡ marked behind marks'
    unfolding marked
    marks_turn cut marks' h = inv ∙ ap (λ (ps : List Payment). marked ps marks) cut ∙ ap (marked behind) (sym h)

pub marks_done : (rest : List Payment) (marks x : List Bool) → x ≡ marked rest marks → rest ≡ [] → marks ≡ x
unfolding marked
marks_done rest marks x inv e = sym (inv ∙ ap (λ (ps : List Payment). marked ps marks) e)

marks_long : (p : Payment) (marks : List Bool) → length (marked_by p marks) ≡ length marks
unfolding marked_by
marks_long (credit j c) marks = length-set marks j true
marks_long (debit l j c) marks = refl

none_marked : (n k : ℕ) → is_marked (replicate n false) k ≡ false
none_marked zero k = refl
none_marked (suc n) zero = refl
none_marked (suc n) (suc k) = none_marked n k

-- a bank is marked where it was before, or is credited
mark_says : (p : Payment) (marks : List Bool) (k : ℕ) → bank_of p < length marks → is_marked (marked_by p marks) k ≡ is_marked marks k || credited_by p k
unfolding marked_by credited_by
mark_says (credit j c) marks k h =
    by_bool (eqb j k)
    (λ e. let q : j ≡ k = eqb-true j k e in rw (e, ← q, get_or-set_same marks j true false h) (sym (or-true (is_marked marks j))))
    (λ e. rw (e, get_or-set_other marks j k true false (λ q. eqb-false j k e (sym q))) (sym (or-false (is_marked marks k))))
mark_says (debit l j c) marks k h = sym (or-false (is_marked marks k))

marks_say : (ps : List Payment) (marks : List Bool) (k : ℕ) → Ranged ps → length marks ≡ 64 → is_marked (marked ps marks) k ≡ is_marked marks k || credited ps k
unfolding marked credited Ranged
marks_say [] marks k r e = sym (or-false (is_marked marks k))
marks_say (p ∷ ps) marks k r e =
    marks_say ps (marked_by p marks) k r.1 (marks_long p marks ∙ e)
    ∙ rw (mark_says p marks k (omega (arith, r.0.0))) (or_assoc (is_marked marks k) (credited_by p k) (credited ps k))

map_same : (f g : ℕ → Bool) (m : List ℕ) → ((k : ℕ) → f k ≡ g k) → map (wake f) m ≡ map (wake g) m
unfolding wake
map_same f g [] h = refl
map_same f g (zero ∷ m) h = ap (λ (l : List ℕ). 0 ∷ l) (map_same f g m h)
map_same f g (suc k ∷ m) h = rw (h k, map_same f g m h)

-- the one pass is the wake of the batch's credits
pub marks_wake : (t : List ℕ) (place : ℕ) (m m' : List ℕ) (marks : List Bool) → Ranged (row_payments t place)
    → marks ≡ marked (row_payments t place) (replicate 64 false) → m' ≡ map (wake (is_marked marks)) m → m' ≡ map (wake (credited (row_payments t place))) m
marks_wake t place m m' marks r e h =
    h ∙ map_same (is_marked marks) (credited (row_payments t place)) m
    (λ k. ap (λ (x : List Bool). is_marked x k) e ∙ marks_say (row_payments t place) (replicate 64 false) k r (length-replicate 64 false) ∙ ap (λ (b : Bool). b || credited (row_payments t place) k) (none_marked 64 k))
