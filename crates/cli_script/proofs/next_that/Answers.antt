use native.Mathlib.Omega.{arith}
use Prim.Native.Nat.{ℕ, ◌<◌}
use lib.ListN.{get_or}
use Rattle.std.proofs.Common.{Fits, w8}
use mathlib.Core.Path.{refl}
use Rattle.cli_script.proofs.Laws.{run_on, run_there, run_end}
use Rattle.cli_script.proofs.next_that.Goals as goal

fits_is : {x : ℕ} → Fits w8 x → x < 256
fits_is h = omega arith

pub loop-i-init : goal.loop-i-init
loop-i-init g c = λ f same. record { reached = omega arith; same = refl }

pub returns-then-stops : goal.returns-then-stops
returns-then-stops g c = λ f same. run_there _ _ _ _ (c.loop-i.invariant f same) c.loop-i-test.true (same (get_or c.args.s.now c.loop-i.i 0) _ (fits_is (c.type_inv.s c.loop-i.i)) c.stops.ensures) c.if-stops.true

pub loop-i-preserved : goal.loop-i-preserved
loop-i-preserved g c = λ f same. run_on _ _ _ _ (c.loop-i.invariant f same) c.loop-i-test.true (same (get_or c.args.s.now c.loop-i.i 0) _ (fits_is (c.type_inv.s c.loop-i.i)) c.stops.ensures) c.if-stops.false

pub returns : goal.returns
returns g c = λ f same. rw c.max.ensures (run_end _ _ _ _ (c.loop-i.invariant f same) (omega arith) (omega arith))
