use native.Mathlib.Omega.{arith}
use Prim.Native.Nat.{◌-◌, ◌+◌}
use Rattle.request_write.specs.Orders.{width_of}
use Rattle.request_write.proofs.Laws.{width_small, width_big, width_none}
use Rattle.request_write.proofs.width.Goals as goal

pub loop-k-init : goal.loop-k-init
unfolding width_of
loop-k-init c = omega arith

pub returns-then-m-lt10 : goal.returns-then-m-lt10
returns-then-m-lt10 c = let l = c.loop-k in record { value = omega (arith, width_small (10 - l.k) l.m c.if-m-lt10.true); small = omega (arith, width_small (10 - l.k) l.m c.if-m-lt10.true) }

pub loop-k-preserved : goal.loop-k-preserved
loop-k-preserved c = let l = c.loop-k in omega (arith, width_big (10 - l.k) l.m (10 - (l.k + 1)) (omega arith) c.if-m-lt10.false)

pub returns : goal.returns
returns c = let l = c.loop-k in record { value = omega (arith, width_none (10 - l.k) l.m (omega arith)); small = omega arith }
