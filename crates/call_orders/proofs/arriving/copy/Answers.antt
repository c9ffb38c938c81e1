use native.Mathlib.Omega.{arith}
use lib.Seq.{length-take-le}
use Rattle.call_orders.proofs.ArriveLaws.{copied}
use Rattle.call_orders.proofs.arriving.copy.Goals as goal

-- src/arriving.rt:10:1
pub returns : goal.returns
returns c = rw c.copy_from_slice.ensures.after (copied _ _ _ _ (omega arith) (length-take-le c.args.n c.args.words.now (omega arith)))
