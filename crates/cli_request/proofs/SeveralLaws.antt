-- Accounts one behind another: one law for each return.
use Prim.Native.Nat.{ℕ, suc, ◌+◌, ◌-◌, ◌≤◌, ◌<◌}
use mathlib.Core.Path.{◌≡◌, ap}
use mathlib.Core.Bool.{Bool, true, false}
use mathlib.Core.List.{List}
use native.Mathlib.Omega.{arith}
use lib.ListN.{length}
use Rattle.cli_request.specs.Account.{first_line}
use Rattle.cli_request.specs.Several.{ends_at, end_from, first_end}

-- where the loop of `first_end` stands
pub record Looking (s : List ℕ) (at : ℕ) : Type 0 where
  pub same : end_from s at (length s - at) ≡ first_end s

left_suc : (n at : ℕ) → at < n → n - at ≡ suc (n - (at + 1))
left_suc n at h = omega arith

module _ {s : List ℕ} {at : ℕ} (g : Looking s at) where
  pub looking_on : {r : Bool} → at < length s → r ≡ ends_at s at → r ≡ false → Looking s (at + 1)
  unfolding end_from
  looking_on h p e = record { same = simp (left_suc _ _ h, ← p, e) at g.same }

  pub looking_there : {r : Bool} → at < length s → r ≡ ends_at s at → r ≡ true → at + 1 ≡ first_end s
  unfolding end_from
  looking_there h p e = simp (left_suc _ _ h, ← p, e) at g.same

none_left : (n at : ℕ) → n ≤ at → n - at ≡ 0
none_left n at h = omega arith

module _ {s : List ℕ} {at : ℕ} (g : Looking s at) where
  pub looking_over : {e : ℕ} → length s ≤ at → e ≡ at → e ≡ first_end s
  unfolding end_from
  looking_over h p = rw p (simp (none_left _ _ h) at g.same)

pub looking_first : (s : List ℕ) {n : ℕ} → n ≡ first_line s → Looking s n
unfolding first_end
looking_first s p = record { same = ap (λ (n : ℕ). end_from s n (length s - n)) p }
