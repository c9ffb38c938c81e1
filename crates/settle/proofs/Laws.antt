-- Laws of cover and settlement, in the terms of the code.
use Rattle.std.specs.Prelude.{Result, Ok, Err}
use mathlib.Core.Path.{◌≡◌, refl, sym, ap, ◌∙◌}
use mathlib.Core.Bool.{Bool, true, false, not, cond}
use mathlib.Core.Logic.{inl, inr}
use mathlib.Core.List.{List, [], ◌∷◌}
use Prim.Native.Nat.{ℕ, zero, suc, ◌+◌, ◌-◌, ◌*◌, ◌^◌, ◌≤◌, ◌<◌}
use native.Mathlib.Omega.{arith}
use lib.Dec.{leb, ltb}
use lib.ListN.{length, get_or, set, length-set}
use mir.Syntax.{w64}
use mir.Val as val
use types.Run.{OneOf}
use borrow.Author.Tests.{ltb-true, ltb-false, leb-true, leb-false, le-leb, lt-leb, not-true, not-false}
use Rattle.chars.specs.Words.{bytes}
use Rattle.chars.specs.declared.Refusal.{Refusal}
use Rattle.chars.specs.declared.Refusal.TheVariants.{BrokenTables}
use Rattle.chars.proofs.Laws.{not_member}
use Rattle.settle.specs.Cover.{esa, covered}
use Rattle.settle.specs.Payments.{Payment, credit, debit, payment, payment_at, payments_from, bank_of, needs_of}
use Rattle.settle.specs.Settlement.{Accounts, accounts, is_covered, uncovered, first_uncovered, paid, settled}
use Rattle.settle.specs.Rules.{Ranged, Fits, Payable, AllPayable}
use Rattle.settle.specs.Types.{batch_or}
use Rattle.settle.specs.declared.Batch.{Batch}
use Rattle.settle.specs.declared.Verdict.{Verdict}
use Rattle.settle.specs.declared.Verdict.TheVariants.{Passes, Stops}

-- what the answer of a batch's constructor tells
module _ (place : ℕ) {b : Result Batch Refusal} (e : b ≡ batch_or place) where
  pub batch_stands : {k : Batch} → b ≡ Ok k → (k.start ≡ place * 349) × (place < 32)
  batch_stands {k = k} f = go (ltb place 32) refl (sym f ∙ e)
    where
      go : (t : Bool) → ltb place 32 ≡ t → Ok k ≡ cond t (Ok (record { start = place * 349 })) (Err BrokenTables) → (k.start ≡ place * 349) × (place < 32)
      go true h g = let z : k ≡ record { start = place * 349 } = cc in (ap (λ (x : Batch). x.start) z, ltb-true place 32 h)
      go false h g = let z : ◌≡◌ {A = ℕ} 0 1 = cc in absurd (omega arith)

  pub batch_nowhere : {r : Refusal} → b ≡ Err r → 32 ≤ place
  batch_nowhere {r = r} f = go (ltb place 32) refl (sym f ∙ e)
    where
      go : (t : Bool) → ltb place 32 ≡ t → ◌≡◌ {A = Result Batch Refusal} (Err r) (cond t (Ok (record { start = place * 349 })) (Err BrokenTables)) → 32 ≤ place
      go true h g = let z : ◌≡◌ {A = ℕ} 0 1 = cc in absurd (omega arith)
      go false h g = ltb-false place 32 h

-- a test and another that says the same
leb_same : (a b c d : ℕ) → (a ≤ b → c ≤ d) → (b < a → d < c) → leb a b ≡ leb c d
leb_same a b c d f g = go (leb a b) refl
  where
    go : (t : Bool) → leb a b ≡ t → leb a b ≡ leb c d
    go true e = e ∙ sym (le-leb c d (f (leb-true a b e)))
    go false e = e ∙ sym (lt-leb c d (g (leb-false a b e)))

module _ (letters balance sublimit cents : ℕ) where
  pub with_P : esa letters ≡ 80 → leb cents balance ≡ covered letters balance sublimit cents
  unfolding covered
  with_P e = rw e

  with_A : OneOf (bytes " A") (esa letters) → covered letters balance sublimit cents ≡ leb (cents + sublimit) balance
  unfolding covered
  with_A (inl e) = rw e
  with_A (inr e) = rw e

  pub with_A_room : OneOf (bytes " A") (esa letters) → sublimit ≤ balance → leb cents (balance - sublimit) ≡ covered letters balance sublimit cents
  with_A_room e h = leb_same cents (balance - sublimit) (cents + sublimit) balance (λ k. omega arith) (λ k. omega arith) ∙ sym (with_A e)

  pub with_A_none : OneOf (bytes " A") (esa letters) → balance < sublimit → false ≡ covered letters balance sublimit cents
  with_A_none e h = sym (with_A e ∙ lt-leb (cents + sublimit) balance (omega arith))

  pub with_other : (esa letters ≡ 80 → ⊥) → (OneOf (bytes " A") (esa letters) → ⊥) → false ≡ covered letters balance sublimit cents
  unfolding covered
  with_other n e = sym (simp (not_member (bytes " A") (esa letters) e, not_member (bytes "P") (esa letters) n))

-- a number above zero is a successor
pub step_down : (n : ℕ) → 0 < n → n ≡ suc (n - 1)
step_down n h = omega arith

pub is_credit : (bank cents letters : ℕ) → letters ≡ 0 → payment bank cents letters ≡ credit bank cents
unfolding payment
is_credit bank cents letters e = rw e

pub is_debit : (bank cents letters : ℕ) → (letters ≡ 0 → ⊥) → payment bank cents letters ≡ debit letters bank cents
unfolding payment
is_debit bank cents zero h = absurd (h refl)
is_debit bank cents (suc n) h = refl

bank_is : (bank cents letters : ℕ) → bank_of (payment bank cents letters) ≡ bank
unfolding payment
bank_is bank cents zero = refl
bank_is bank cents (suc n) = refl

-- one payment of a verdict
goes : (a : Accounts) (p : Payment) (ps : List Payment) → uncovered a p ≡ false → first_uncovered a (needs_of (p ∷ ps)) ≡ first_uncovered a (needs_of ps)
unfolding uncovered needs_of first_uncovered
goes a (credit k c) ps e = refl
goes a (debit l k c) ps e = rw (not-false (is_covered a (record { letters = l; bank = k; cents = c })) e)

stops : (a : Accounts) (p : Payment) (ps : List Payment) → uncovered a p ≡ true → first_uncovered a (needs_of (p ∷ ps)) ≡ Stops (bank_of p)
unfolding uncovered needs_of first_uncovered
stops a (credit k c) ps e = cc
stops a (debit l k c) ps e = rw (not-true (is_covered a (record { letters = l; bank = k; cents = c })) e)

module _ (t : List ℕ) (at : ℕ) where
  pub bank_at_lem : bank_of (payment_at t at) ≡ get_or t at 0
  unfolding payment_at
  bank_at_lem = bank_is (get_or t at 0) (get_or t (at + 1) 0) (get_or t (at + 2) 0)

  module _ (b l : List ℕ) where
    pub uncovered_credit : get_or t (at + 2) 0 ≡ 0 → false ≡ uncovered (accounts b l) (payment_at t at)
    unfolding uncovered payment_at
    uncovered_credit e = rw (is_credit (get_or t at 0) (get_or t (at + 1) 0) (get_or t (at + 2) 0) e)

    pub uncovered_debit : (k : ℕ) (r : Bool) → (get_or t (at + 2) 0 ≡ 0 → ⊥) → k ≡ get_or t at 0
        → r ≡ covered (get_or t (at + 2) 0) (get_or b k 0) (get_or l k 0) (get_or t (at + 1) 0) → not r ≡ uncovered (accounts b l) (payment_at t at)
    unfolding uncovered payment_at
    uncovered_debit k r e f h = rw (h, f, is_debit (get_or t at 0) (get_or t (at + 1) 0) (get_or t (at + 2) 0) e)

  pub next : (n : ℕ) → 0 < n → payments_from t at n ≡ payment_at t at ∷ payments_from t (at + 3) (n - 1)
  unfolding payments_from
  next n more = ap (payments_from t at) (step_down n more)

  -- the payment at `at`, and those behind it
  module _ (rest behind : List Payment) (cut : rest ≡ payment_at t at ∷ behind) where
    pub ranged_head : Ranged rest → get_or t at 0 < 64
    unfolding Ranged
    ranged_head h = rw bank_at_lem at (rw cut at h).0.0

    pub ranged_tail : Ranged rest → Ranged behind
    unfolding Ranged
    ranged_tail h = (rw cut at h).1

    -- a turn of the search: x is the verdict on all payments, and on those that are left
    module _ (a : Accounts) (x : Verdict) (inv : x ≡ first_uncovered a (needs_of rest)) (r : Bool) (told : r ≡ uncovered a (payment_at t at)) where
      pub first_stops : r ≡ true → Stops (get_or t at 0) ≡ x
      first_stops e = sym (inv ∙ ap (λ (ps : List Payment). first_uncovered a (needs_of ps)) cut ∙ stops a (payment_at t at) behind (sym told ∙ e) ∙ ap Stops bank_at_lem)

      pub first_goes : r ≡ false → x ≡ first_uncovered a (needs_of behind)
      first_goes e = inv ∙ ap (λ (ps : List Payment). first_uncovered a (needs_of ps)) cut ∙ goes a (payment_at t at) behind (sym told ∙ e)

    -- a turn of the settlement
    module _ (b : List ℕ) where
      pub payable_head : AllPayable b rest → Payable b (payment_at t at)
      unfolding AllPayable
      payable_head h = (rw cut at h).0

      module _ (b' : List ℕ) (told : b' ≡ paid b (payment_at t at)) where
        pub payable_tail : AllPayable b rest → AllPayable b' behind
        unfolding AllPayable
        payable_tail h = rw told (rw cut at h).1

        pub settled_goes : (x : List ℕ) → x ≡ settled b rest → x ≡ settled b' behind
        unfolding settled
        settled_goes x inv = rw (inv, cut, told)

  -- one payment
  module _ (b : List ℕ) (h : Payable b (payment_at t at)) where
    pub payable_inside : get_or t at 0 < length b
    payable_inside = rw bank_at_lem at h.inside

    pub payable_scaled : length b * 8 < 2 ^ 63 → val.Fits w64 (get_or t at 0 * 8)
    payable_scaled l = omega (arith, payable_inside)

    pub payable_money : (get_or t (at + 2) 0 ≡ 0 → ⊥) → get_or t (at + 1) 0 ≤ get_or b (get_or t at 0) 0
    unfolding Fits payment_at
    payable_money e = rw (is_debit (get_or t at 0) (get_or t (at + 1) 0) (get_or t (at + 2) 0) e) at h.fits

    pub payable_room : get_or t (at + 2) 0 ≡ 0 → val.Fits w64 (get_or b (get_or t at 0) 0 + get_or t (at + 1) 0)
    unfolding Fits payment_at
    payable_room e = record { fits = rw (is_credit (get_or t at 0) (get_or t (at + 1) 0) (get_or t (at + 2) 0) e) at h.fits }

  pub paid_credit : (b : List ℕ) → get_or t (at + 2) 0 ≡ 0 → set b (get_or t at 0) (get_or b (get_or t at 0) 0 + get_or t (at + 1) 0) ≡ paid b (payment_at t at)
  unfolding paid payment_at
  paid_credit b e = rw (is_credit (get_or t at 0) (get_or t (at + 1) 0) (get_or t (at + 2) 0) e)

  pub paid_debit : (b : List ℕ) → (get_or t (at + 2) 0 ≡ 0 → ⊥) → set b (get_or t at 0) (get_or b (get_or t at 0) 0 - get_or t (at + 1) 0) ≡ paid b (payment_at t at)
  unfolding paid payment_at
  paid_debit b e = rw (is_debit (get_or t at 0) (get_or t (at + 1) 0) (get_or t (at + 2) 0) e)

-- the payments from the i-th of n on, the first of which stands at a word of the table
abbrev pub left_from : List ℕ → (first n i : ℕ) → List Payment
left_from t first n i = payments_from t (first + i * 3) (n - i)

module _ (t : List ℕ) (first n : ℕ) where
  pub left_all : left_from t first n 0 ≡ payments_from t first n
  left_all = let e : first + 0 * 3 ≡ first = omega arith in let f : n - 0 ≡ n = omega arith in cc

  pub left_next : (i : ℕ) → i < n → left_from t first n i ≡ payment_at t (first + i * 3) ∷ left_from t first n (i + 1)
  left_next i h =
      let e : first + i * 3 + 3 ≡ first + (i + 1) * 3 = omega arith in
      let f : n - i - 1 ≡ n - (i + 1) = omega arith in
      let g : left_from t first n i ≡ payment_at t (first + i * 3) ∷ payments_from t (first + i * 3 + 3) (n - i - 1) = next t (first + i * 3) (n - i) (omega arith) in
      cc

  pub left_none : (i : ℕ) → n ≤ i → left_from t first n i ≡ []
  unfolding payments_from
  left_none i h = let e : n - i ≡ 0 = omega arith in ap (payments_from t (first + i * 3)) e

-- nothing is left
pub first_none : (a : Accounts) (rest : List Payment) (x : Verdict) → rest ≡ [] → x ≡ first_uncovered a (needs_of rest) → Passes ≡ x
unfolding first_uncovered needs_of
first_none a rest x e inv = rw (inv, e)

pub settled_none : (b : List ℕ) (rest : List Payment) (x : List ℕ) → rest ≡ [] → x ≡ settled b rest → b ≡ x
unfolding settled
settled_none b rest x e inv = rw (inv, e)

pub paid_length : (b : List ℕ) (p : Payment) → length (paid b p) ≡ length b
unfolding paid
paid_length b (credit k c) = length-set b k (get_or b k 0 + c)
paid_length b (debit l k c) = length-set b k (get_or b k 0 - c)
