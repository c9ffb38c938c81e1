-- Laws of the tests of the rules: what a turn of each loop adds.
use mathlib.Core.Path.{◌≡◌, refl, sym, ap, ◌∙◌}
use mathlib.Core.Bool.{true, false, false≢true}
use mathlib.Core.List.{List, ◌∷◌}
use Prim.Native.Nat.{ℕ, zero, suc, ◌+◌, ◌-◌, ◌*◌, ◌≤◌, ◌<◌}
use native.Mathlib.Omega.{arith}
use native.Mathlib.Numerals.{add-one}
use mir.Syntax.{w64}
use mir.Val.{Fits}
use lib.Dec.{eqb}
use borrow.Author.Tests.{eqb-true}
use lib.ListN.{length, get_or, drop}
use lib.Seq.{drop-cons, drop-length, slice, slice-cons, slice_empty}
use Rattle.settle.specs.Payments.{Payment, credit, debit, payment, payment_at, payments_from, cents_of}
use Rattle.settle.specs.Rules.{sum, credits, debits, Apart, Distinct, Ranged, Good}
use Rattle.settle.proofs.Laws.{next, bank_at_lem, is_credit, is_debit}
use Rattle.queue.specs.Rows.{AllGood, most}
use Rattle.queue.proofs.Promises.{most_below}
use Rattle.run_queue.specs.Sums.{credit_of, debit_of}

pub no : {X : Type 0} → false ≡ true → X
no e = absurd (false≢true e)

-- what is left after one more turn
pub less_one : (n i : ℕ) → n - i - 1 ≡ n - (i + 1)
less_one n i = omega arith

-- the total
module _ (b : List ℕ) (i total x : ℕ) (inv : x ≡ total + sum (drop i b)) where
  pub total_turn : i < length b → x ≡ total + get_or b i 0 + sum (drop (i + 1) b)
  total_turn h = inv ∙ ap (λ (l : List ℕ). total + sum l) (drop-cons b i 0 h) ∙ rw (add-one i) (omega arith)

  pub total_done : i ≤ length b → length b ≤ i → (most : ℕ) → total ≤ most → x ≤ most
  total_done g h most l = let e : i ≡ length b = omega arith in let f : x ≡ total + 0 = inv ∙ rw (e, drop-length) in omega arith

cents_is : (bank cents letters : ℕ) → cents_of (payment bank cents letters) ≡ cents
unfolding payment
cents_is bank cents zero = refl
cents_is bank cents (suc n) = refl

cents_at_lem : (t : List ℕ) (at : ℕ) → cents_of (payment_at t at) ≡ get_or t (at + 1) 0
unfolding payment_at
cents_at_lem t at = cents_is (get_or t at 0) (get_or t (at + 1) 0) (get_or t (at + 2) 0)

credits_one : (p : Payment) (ps : List Payment) → credits (p ∷ ps) ≡ credit_of p + credits ps
unfolding credits credit_of
credits_one (credit k c) ps = refl
credits_one (debit l k c) ps = omega arith

debits_one : (p : Payment) (ps : List Payment) → debits (p ∷ ps) ≡ debit_of p + debits ps
unfolding debits debit_of
debits_one (credit k c) ps = omega arith
debits_one (debit l k c) ps = refl

-- an amount of one payment, on either side, is its cents at the most
credit_of_le : (p : Payment) → credit_of p ≤ cents_of p
unfolding credit_of
credit_of_le (credit k c) = omega arith
credit_of_le (debit l k c) = omega arith

debit_of_le : (p : Payment) → debit_of p ≤ cents_of p
unfolding debit_of
debit_of_le (credit k c) = omega arith
debit_of_le (debit l k c) = omega arith

module _ (t : List ℕ) (at : ℕ) where
  pub credit_yes : get_or t (at + 2) 0 ≡ 0 → get_or t (at + 1) 0 ≡ credit_of (payment_at t at)
  unfolding credit_of payment_at
  credit_yes e = rw (is_credit (get_or t at 0) (get_or t (at + 1) 0) (get_or t (at + 2) 0) e)

  pub credit_no : (get_or t (at + 2) 0 ≡ 0 → ⊥) → 0 ≡ credit_of (payment_at t at)
  unfolding credit_of payment_at
  credit_no e = rw (is_debit (get_or t at 0) (get_or t (at + 1) 0) (get_or t (at + 2) 0) e)

  pub debit_no : get_or t (at + 2) 0 ≡ 0 → 0 ≡ debit_of (payment_at t at)
  unfolding debit_of payment_at
  debit_no e = rw (is_credit (get_or t at 0) (get_or t (at + 1) 0) (get_or t (at + 2) 0) e)

  pub debit_yes : (get_or t (at + 2) 0 ≡ 0 → ⊥) → get_or t (at + 1) 0 ≡ debit_of (payment_at t at)
  unfolding debit_of payment_at
  debit_yes e = rw (is_debit (get_or t at 0) (get_or t (at + 1) 0) (get_or t (at + 2) 0) e)

  module _ (n : ℕ) (more : 0 < n) where
    pub ranged_back : get_or t at 0 ≤ 63 → get_or t (at + 1) 0 ≤ 999999999999 → Ranged (payments_from t (at + 3) (n - 1)) → Ranged (payments_from t at n)
    unfolding Ranged
    ranged_back b c h = rw (next t at n more) ((omega (arith, bank_at_lem t at), omega (arith, cents_at_lem t at)), h)

    pub ranged_cents : Ranged (payments_from t at n) → cents_of (payment_at t at) ≤ 999999999999
    unfolding Ranged
    ranged_cents h = (rw (next t at n more) at h).0.1

    pub apart_back : (k : ℕ) → (get_or t at 0 ≡ k → ⊥) → Apart k (payments_from t (at + 3) (n - 1)) → Apart k (payments_from t at n)
    unfolding Apart
    apart_back k d h = rw (next t at n more) ((λ e. d (sym (bank_at_lem t at) ∙ e)), h)

    pub distinct_back : Apart (get_or t at 0) (payments_from t (at + 3) (n - 1)) → Distinct (payments_from t (at + 3) (n - 1)) → Distinct (payments_from t at n)
    unfolding Distinct Apart
    distinct_back d h = rw (next t at n more) (rw (bank_at_lem t at) d, h)

    pub credits_turn : credits (payments_from t at n) ≡ credit_of (payment_at t at) + credits (payments_from t (at + 3) (n - 1))
    credits_turn = ap credits (next t at n more) ∙ credits_one (payment_at t at) (payments_from t (at + 3) (n - 1))

    pub debits_turn : debits (payments_from t at n) ≡ debit_of (payment_at t at) + debits (payments_from t (at + 3) (n - 1))
    debits_turn = ap debits (next t at n more) ∙ debits_one (payment_at t at) (payments_from t (at + 3) (n - 1))

    pub ranged_rest : Ranged (payments_from t at n) → Ranged (payments_from t (at + 3) (n - 1))
    unfolding Ranged
    ranged_rest h = (rw (next t at n more) at h).1

  -- nothing is left
  pub ranged_none : (n : ℕ) → n ≤ 0 → Ranged (payments_from t at n)
  unfolding Ranged payments_from
  ranged_none n h = let e : n ≡ 0 = omega arith in rw e tt

  pub apart_none : (k n : ℕ) → n ≤ 0 → Apart k (payments_from t at n)
  unfolding Apart payments_from
  apart_none k n h = let e : n ≡ 0 = omega arith in rw e tt

  pub distinct_none : (n : ℕ) → n ≤ 0 → Distinct (payments_from t at n)
  unfolding Distinct Apart payments_from
  distinct_none n h = let e : n ≡ 0 = omega arith in rw e tt

-- the sums of a batch: C and D are those of all its payments
pub record Sums (t : List ℕ) (C D at left brought taken : ℕ) : Type 0 where
  pub room : at + 3 * left ≤ length t
  pub ranged : Ranged (payments_from t at left)
  pub credits_are : C ≡ brought + credits (payments_from t at left)
  pub debits_are : D ≡ taken + debits (payments_from t at left)
  pub brought_small : brought + 1000000000000 * left ≤ 100000000000000
  pub taken_small : taken + 1000000000000 * left ≤ 100000000000000

pub sums_start : (t : List ℕ) (at n : ℕ) → at + 3 * n ≤ length t → n ≤ 100 → Ranged (payments_from t at n) → Sums t (credits (payments_from t at n)) (debits (payments_from t at n)) at n 0 0
sums_start t at n h f r = record { room = h; ranged = r; credits_are = omega arith; debits_are = omega arith; brought_small = omega arith; taken_small = omega arith }

module _ (t : List ℕ) (C D at left brought taken : ℕ) (inv : Sums t C D at left brought taken) where
  module _ (more : 0 < left) where
    credit_small : credit_of (payment_at t at) ≤ 999999999999
    credit_small = omega (arith, credit_of_le (payment_at t at), ranged_cents t at left more inv.ranged)

    debit_small : debit_of (payment_at t at) ≤ 999999999999
    debit_small = omega (arith, debit_of_le (payment_at t at), ranged_cents t at left more inv.ranged)

    pub fits_brought : (r : ℕ) → r ≡ credit_of (payment_at t at) → Fits w64 (brought + r)
    fits_brought r e = omega (arith, credit_small, inv.brought_small)

    pub fits_taken : (r : ℕ) → r ≡ debit_of (payment_at t at) → Fits w64 (taken + r)
    fits_taken r e = omega (arith, debit_small, inv.taken_small)

    pub sums_turn : (r s : ℕ) → r ≡ credit_of (payment_at t at) → s ≡ debit_of (payment_at t at) → Sums t C D (at + 3) (left - 1) (brought + r) (taken + s)
    sums_turn r s e f = record {
      room = omega (arith, inv.room);
      ranged = ranged_rest t at left more inv.ranged;
      credits_are = omega (arith, inv.credits_are, credits_turn t at left more);
      debits_are = omega (arith, inv.debits_are, debits_turn t at left more);
      brought_small = omega (arith, inv.brought_small, credit_small);
      taken_small = omega (arith, inv.taken_small, debit_small);
    }

  pub sums_done : left ≤ 0 → eqb brought taken ≡ true → C ≡ D
  unfolding credits debits payments_from
  sums_done h e =
      let z : left ≡ 0 = omega arith in
      let c : C ≡ brought + 0 = rw z at inv.credits_are in
      let d : D ≡ taken + 0 = rw z at inv.debits_are in
      omega (arith, eqb-true brought taken e)

-- the queue
module _ (t q : List ℕ) (n i : ℕ) (more : i < n) (long : n ≤ length q) where
  pub good_back : Good t (get_or q i 0) → AllGood t (slice (i + 1) n q) → AllGood t (slice i n q)
  unfolding AllGood
  good_back g h = rw (slice-cons i n q 0 more long) (g, (rw (add-one i) at h))

pub good_none : (t q : List ℕ) (n i : ℕ) → i ≤ n → n ≤ i → AllGood t (slice i n q)
unfolding AllGood
good_none t q n i g h = let e : i ≡ n = omega arith in rw (e, slice_empty n q) tt

-- the row of tries is long enough
pub most_fits : (w n : ℕ) → w ≤ 32 → n ≡ 528 → 0 + most w ≤ n
most_fits w n h e = omega (arith, most_below w h)
