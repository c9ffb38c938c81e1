use native.Mathlib.Omega.{arith}
use Rattle.call_orders.proofs.StageLaws.{loaded}
use Rattle.call_orders.proofs.load.Goals as goal

-- src/lib.rt:22:1
pub returns : goal.returns
returns c = record { became = loaded _ _ _ _ _ c.requires.0 (omega arith) (omega arith) c.load_order-nq.ensures.0 c.load_order-nw.ensures.0; queued_bound = (omega arith, omega arith) }
