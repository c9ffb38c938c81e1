-- A number of up to ten digits has the digits that its width says.
use Prim.Native.Nat.{ℕ, zero, suc, ◌/◌, ◌≤◌, ◌<◌}
use mathlib.Core.Path.{◌≡◌, refl}
use mathlib.Core.Bool.{Bool, true, false, cond}
use native.Mathlib.Omega.{arith}
use borrow.Author.Tests.{ltb-true}
use lib.Dec.{ltb}
use Rattle.text_scan.specs.Scan.{ten}
use Rattle.request_write.specs.Orders.{width_on, width_of}

width_bound : (f v : ℕ) → v < ten (suc f) → (v < ten (width_on f v)) × (0 < width_on f v) × (width_on f v ≤ suc f)
unfolding width_on
width_bound zero v h = (h, omega arith, omega arith)
width_bound (suc f) v h = go (ltb v 10) refl (width_bound f (v / 10) (omega arith))
  where
    go : (b : Bool) → ltb v 10 ≡ b → (v / 10 < ten (width_on f (v / 10))) × (0 < width_on f (v / 10)) × (width_on f (v / 10) ≤ suc f) → (v < ten (cond b 1 (suc (width_on f (v / 10))))) × (0 < cond b 1 (suc (width_on f (v / 10)))) × (cond b 1 (suc (width_on f (v / 10))) ≤ suc (suc f))
    go true e i = (omega (arith, ltb-true v 10 e), omega arith, omega arith)
    go false e i = (omega (arith, i.0), omega arith, omega (arith, i.2))

pub width_fits : (v : ℕ) → v < ten 10 → (v < ten (width_of v)) × (0 < width_of v) × (width_of v ≤ 10)
unfolding width_of
width_fits v h = width_bound 9 v h
