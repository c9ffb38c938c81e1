-- The steps over the lines of an account, one law for each return.
use Prim.Native.Nat.{ℕ, suc, ◌+◌, ◌-◌, ◌≤◌, ◌<◌, max, min}
use mathlib.Core.Path.{◌≡◌, refl}
use Rattle.std.specs.Prelude.{Ok, Err, Option, Some, None}
use Rattle.std.specs.List.{count_by}
use Rattle.std.proofs.lemmas.List.{take_min}
use Rattle.std.proofs.lemmas.List.Sums.{sum_by-cons}
use mathlib.Core.List.{List, [], ◌∷◌}
use native.Mathlib.Numerals.{add-one}
use native.Mathlib.Omega.{arith}
use lib.Dec.{eqb}
use lib.ListN.{length, get_or, take, drop, set, length-set, drop_of_length-le}
use lib.Seq.{drop-cons}
use borrow.Author.Tests.{le-leb, lt-leb, eq-eqb, ne_eqb}
use Rattle.text_scan.specs.Scan.{codes_at}
use Rattle.request_write.specs.declared.Payable.{Payable}
use Rattle.cli_request.specs.Account.{payment_at, paid, payments_on, payments_at, line_from, line_after, feed, fed, line_of}
use Rattle.cli_request.specs.declared.Expected.TheVariants as wanted

pub codes_past : (s : List ℕ) (at most : ℕ) {b : ℕ} → b ≡ codes_at s at most → at ≤ b
unfolding codes_at
codes_past s at most p = omega (arith, p)

-- ---- the next line

-- where the loop of `line_after` stands
pub record Seeking (s : List ℕ) (at i : ℕ) : Type 0 where
  pub reached : i ≤ max at (length s)
  pub same : line_from i (drop i s) ≡ line_after s at

module _ {s : List ℕ} {at i : ℕ} (g : Seeking s at i) where
  pub seeking_on : i < length s → (get_or s i 0 ≡ 10 → ⊥) → Seeking s at (i + 1)
  unfolding line_from
  seeking_on h n = record { reached = omega arith; same = rw add-one (simp (drop-cons s i 0 h, ne_eqb _ _ n, add-one) at g.same) }

  pub seeking_there : i < length s → get_or s i 0 ≡ 10 → i + 1 ≡ line_after s at
  unfolding line_from
  seeking_there h e = simp (drop-cons s i 0 h, eq-eqb _ _ e) at g.same

  pub seeking_none : at ≤ i → length s ≤ i → max at (length s) ≡ line_after s at
  unfolding line_from
  seeking_none p h = let z : max at (length s) ≡ i = omega (arith, g.reached) in rw z (simp (drop_of_length-le s h) at g.same)

-- ---- the number of a line

pub fed_count : (l : List ℕ) → count_by (λ b. eqb b 10) l ≡ fed l
unfolding feed
fed_count [] = refl
fed_count (x ∷ l) = rw (sum_by-cons, fed_count l) refl

pub line_is : (s : List ℕ) (at : ℕ) {m k : ℕ} → m ≡ min at (length s) → k ≡ count_by (λ b. eqb b 10) (take m s) → 1 + k ≡ line_of s at
unfolding line_of
line_is s at p q = rw (q, fed_count, p, take_min)

-- ---- payments

pub record Going (s : List ℕ) (at : ℕ) (payments : List Payable) (n j : ℕ) : Type 0 where
  pub room : n ≤ 10
  pub size : length payments ≡ 10
  pub same : payments_on (10 - n) s j n payments ≡ payments_at s at

module _ {s : List ℕ} {at n j : ℕ} {payments : List Payable} (g : Going s at payments n j) where
  full : 10 ≤ n → payments_on 0 s j 10 payments ≡ payments_at s at
  full h = let z : n ≡ 10 = omega (arith, g.room) in rw z at g.same

  step : n < 10 → payments_on (suc (10 - (n + 1))) s j n payments ≡ payments_at s at
  step h = let z : 10 - n ≡ suc (10 - (n + 1)) = omega arith in rw z at g.same

  pub going_end : n < 10 → length s ≤ j → paid payments n (Ok tt) ≡ payments_at s at
  unfolding payments_on
  going_end h e = simp (le-leb _ _ e) at (step h)

  pub going_cut : {r : Option (Payable × ℕ)} → n < 10 → j < length s → r ≡ payment_at s j → r ≡ None → paid payments n (Err (j, wanted.Payment)) ≡ payments_at s at
  unfolding payments_on
  going_cut h e p p' = simp (lt-leb _ _ e, ← p, p') at (step h)

  pub going_on : {r : Option (Payable × ℕ)} {q : Payable} {e : ℕ} → n < 10 → j < length s → r ≡ payment_at s j → r ≡ Some (q, e) → Going s at (set payments n q) (n + 1) e
  unfolding payments_on
  going_on h l p p' = record {
    room = omega arith;
    size = simp length-set g.size;
    same = simp (lt-leb _ _ l, ← p, p') at (step h);
  }

  pub full_end : 10 ≤ n → length s ≤ j → paid payments 10 (Ok tt) ≡ payments_at s at
  unfolding payments_on
  full_end h e = simp (le-leb _ _ e) at (full h)

  pub full_cut : {r : Option (Payable × ℕ)} → 10 ≤ n → j < length s → r ≡ payment_at s j → r ≡ None → paid payments 10 (Err (j, wanted.Payment)) ≡ payments_at s at
  unfolding payments_on
  full_cut h e p p' = simp (lt-leb _ _ e, ← p, p') at (full h)

  pub full_more : {r : Option (Payable × ℕ)} {w : Payable × ℕ} → 10 ≤ n → j < length s → r ≡ payment_at s j → r ≡ Some w → paid payments 11 (Ok tt) ≡ payments_at s at
  unfolding payments_on
  full_more h e p p' = simp (lt-leb _ _ e, ← p, p') at (full h)
