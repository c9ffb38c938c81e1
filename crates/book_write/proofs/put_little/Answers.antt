use native.Mathlib.Omega.{arith}
use Rattle.book_write.specs.Closing.{little_of}
use Rattle.book_write.proofs.Storing.{storing_first, storing_on, storing_done, little_next, little_none}
use Rattle.book_write.proofs.put_little.Goals as goal

pub loop-i-init : goal.loop-i-init
loop-i-init c = storing_first _ _ _ (λ n. little_of n c.args.v)

pub loop-i-preserved : goal.loop-i-preserved
loop-i-preserved c = storing_on c.loop-i.invariant (omega arith) (little_next _ _ (omega arith)) c.put_byte.ensures

pub shape_of-out : goal.shape_of-out
shape_of-out c = c.loop-i.invariant.size

pub returns : goal.returns
returns c = storing_done c.loop-i.invariant (little_none _ _ (omega arith))
