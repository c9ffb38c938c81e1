use Prim.Native.Nat.{◌-◌, ◌+◌}
use mathlib.Core.Path.{◌≡◌}
use Rattle.request_write.specs.Orders.{width_on, width_of}
use Rattle.request_write.proofs.width.Given as goal

abbrev pub invariant-loop-k : goal.invariant-loop-k
invariant-loop-k l = l.k + width_on (10 - l.k) l.m ≡ 1 + width_of l.v
