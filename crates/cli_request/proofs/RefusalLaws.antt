-- The line of an account: one law for each return.
use Prim.Native.Nat.{ℕ, zero, suc, ◌+◌, ◌*◌, ◌-◌, ◌≤◌, ◌<◌, min}
use mathlib.Core.Path.{◌≡◌, refl}
use mathlib.Core.List.{List}
use native.Mathlib.Omega.{arith}
use lib.ListN.{get_or}
use borrow.Author.Tests.{lt-ltb, le-ltb, le-leb, lt-leb, eq-eqb, ne_eqb}
use Rattle.request_read.specs.declared.terms.Activation.TheVariants.{AtOnce, Minute}
use Rattle.request_write.specs.Orders.{no_payable}
use Rattle.request_write.specs.declared.Order.{Order}
use Rattle.request_write.specs.declared.Payable.{Payable}
use Rattle.cli_request.specs.Refusals.{lines_of, payment_from, payment_of, heads, account_line}

-- where the loop over the payments stands
pub record Finding (ps : List Payable) (n from line k end : ℕ) : Type 0 where
  pub inside : k ≤ 10
  pub small : end ≤ 9 + 4 * k
  pub same : payment_from (10 - k) ps n k end line ≡ payment_of ps n from line

pub finding_start : (ps : List Payable) (n from line : ℕ) → from ≤ 9 → Finding ps n from line 0 from
unfolding payment_of
finding_start ps n from line h = record { inside = omega arith; small = h; same = refl }

room_left : (k : ℕ) → k < 10 → 10 - k ≡ suc (10 - (k + 1))
room_left k h = omega arith

module _ {ps : List Payable} {n from line k end : ℕ} (g : Finding ps n from line k end) where
  pub finding_there : {s : ℕ} → k < 10 → k < n → s ≡ lines_of (get_or ps k no_payable).side → line < end + s → (k ≡ payment_of ps n from line) × (k ≤ 10)
  unfolding payment_from
  finding_there h e p q = (simp (room_left k h, lt-leb _ _ e, ← p, lt-ltb _ _ q) at g.same, omega arith)

  pub finding_on : {s : ℕ} → k < 10 → k < n → s ≡ lines_of (get_or ps k no_payable).side → s ≤ 4 → end + s ≤ line → Finding ps n from line (k + 1) (end + s)
  unfolding payment_from
  finding_on h e p f q = record { inside = omega arith; small = omega (arith, g.small); same = simp (room_left k h, lt-leb _ _ e, ← p, le-ltb _ _ q) at g.same }

module _ {ps : List Payable} {n from line k end : ℕ} (g : Finding ps n from line k end) where
  pub finding_done : {m : ℕ} → m ≡ min n 10 → k ≡ m → m ≡ payment_of ps n from line
  unfolding payment_from
  finding_done m h = rw (← h) (go (10 - k) refl)
    where
      go : (r : ℕ) → 10 - k ≡ r → k ≡ payment_of ps n from line
      go zero e = rw e at g.same
      go (suc r) e = let few : n ≤ k = omega arith in simp (le-leb _ _ few) at (rw e at g.same)

module _ (o : Order) (line : ℕ) where
  pub line_in_head : line < 8 → get_or heads line 0 ≡ account_line o line
  unfolding account_line
  line_in_head h = simp (lt-ltb _ _ h)

  pub line_at_once : {k : ℕ} → 8 ≤ line → o.activation ≡ AtOnce → k ≡ payment_of o.payments o.n 8 line → 8 + k ≡ account_line o line
  unfolding account_line
  line_at_once h e p = rw (le-ltb _ _ h, e, ← p) refl

  pub line_of_minute : {m : ℕ} → 8 ≤ line → o.activation ≡ Minute m → line ≡ 8 → 7 ≡ account_line o line
  unfolding account_line
  line_of_minute h e q = rw (le-ltb _ _ h, e, eq-eqb _ _ q) refl

  pub line_behind : {m k : ℕ} → 8 ≤ line → o.activation ≡ Minute m → (line ≡ 8 → ⊥) → k ≡ payment_of o.payments o.n 9 line → 8 + k ≡ account_line o line
  unfolding account_line
  line_behind h e q p = rw (le-ltb _ _ h, e, ne_eqb _ _ q, ← p) refl
