-- The steps over a payment, and a turn of the loop over the payments.
use Rattle.std.specs.Prelude.{Result, Ok, Err}
use Prim.Native.Nat.{ℕ, suc, ◌+◌, ◌-◌, ◌≤◌, ◌<◌}
use mathlib.Core.Path.{◌≡◌, refl}
use mathlib.Core.List.{List}
use mathlib.Core.Bool.{Bool, true, false, not}
use native.Mathlib.Omega.{arith}
use borrow.Author.Tests.{not-true, not-false}
use lib.ListN.{length, set, replicate, length-set}
use Rattle.text_scan.specs.declared.Cursor.{Cursor}
use Rattle.text_fields.specs.Fields.{place}
use Rattle.text_fields.specs.declared.Break.{Break}
use Rattle.request_read.specs.payments.Payments.{no_payment, payment_at, more_at, ended, payments_on, payments_at}
use Rattle.request_read.specs.declared.payments.Payment.{Payment}

-- where the loop stands: n payments read, at the place j
pub record Going (s : List ℕ) (at : ℕ) (items : List Payment) (n j : ℕ) : Type 0 where
  pub room : n ≤ 10
  pub size : length items ≡ 10
  pub same : payments_on (10 - n) s j n items ≡ payments_at s at

pub going_from : (s : List ℕ) (at : ℕ) {p : Payment} → p ≡ no_payment → Going s at (replicate 10 p) 0 at
unfolding payments_at
going_from s at e = record { room = omega arith; size = refl; same = rw e }

module _ {s : List ℕ} {at n j : ℕ} {items : List Payment} (g : Going s at items n j) where
  pub going_full : 10 ≤ n → ended (Ok (place j)) 10 items ≡ payments_at s at
  unfolding payments_on
  going_full h = let z : n ≡ 10 = omega (arith, g.room) in rw z at g.same

  step : n < 10 → payments_on (suc (10 - (n + 1))) s j n items ≡ payments_at s at
  step h = let z : 10 - n ≡ suc (10 - (n + 1)) = omega arith in rw z at g.same

  pub going_cut : {r : Result (Payment × Cursor) Break} {b : Break} → n < 10 → r ≡ payment_at s j → r ≡ Err b → ended (Err b) n items ≡ payments_at s at
  unfolding payments_on
  going_cut h p p' = simp (← p, p') at (step h)

  pub going_last : {r : Result (Payment × Cursor) Break} {q : Payment} {c : Cursor} {b : Bool} → n < 10 → r ≡ payment_at s j → r ≡ Ok (q, c) → b ≡ more_at s c.at → not b ≡ true → ended (Ok (place c.at)) (n + 1) (set items n q) ≡ payments_at s at
  unfolding payments_on
  going_last {b = b} h p p' m m' = simp (← p, p', ← m, not-true b m') at (step h)

  pub going_on : {r : Result (Payment × Cursor) Break} {q : Payment} {c : Cursor} {b : Bool} → n < 10 → r ≡ payment_at s j → r ≡ Ok (q, c) → b ≡ more_at s c.at → not b ≡ false → Going s at (set items n q) (n + 1) c.at
  unfolding payments_on
  going_on {b = b} h p p' m m' = record {
    room = omega arith;
    size = simp length-set g.size;
    same = simp (← p, p', ← m, not-false b m') at (step h);
  }
