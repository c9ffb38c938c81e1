use native.Mathlib.Omega.{arith}
use Prim.Native.Nat.{◌-◌}
use lib.ListN.{replicate}
use Rattle.book_write.proofs.Storing.{storing_first, storing_on, storing_done, zeros_next, zeros_none}
use Rattle.book_write.proofs.put_zeros.Goals as goal

pub loop-i-init : goal.loop-i-init
loop-i-init c = storing_first _ _ _ (λ n. replicate n 0)

pub loop-i-preserved : goal.loop-i-preserved
loop-i-preserved c = storing_on c.loop-i.invariant (omega arith) (zeros_next (c.args.n - c.loop-i.i) (omega arith)) c.put_byte.ensures

pub shape_of-out : goal.shape_of-out
shape_of-out c = c.loop-i.invariant.size

pub returns : goal.returns
returns c = storing_done c.loop-i.invariant (zeros_none (c.args.n - c.loop-i.i) (omega arith))
