use native.Mathlib.Omega.{arith}
use borrow.Author.Rules.{rules}
use lib.ListN.{length-set}
use Rattle.call_orders.proofs.OrderLaws.{others_start, others_turn, others_done}
use Rattle.call_orders.proofs.orders.remove.Goals as goal

-- src/orders.rt:51:5
pub loop-i-init : goal.loop-i-init
loop-i-init c = search (rules, others_start)

-- src/orders.rt:51:5
pub loop-i-preserved : goal.loop-i-preserved
loop-i-preserved c = (search rules, search (rules, length-set), others_turn _ _ _ _ _ _ (omega arith) (omega arith) (omega arith) c.loop-i.invariant.2 c.kept-k.ensures.0)

-- src/orders.rt:45:1
pub returns : goal.returns
returns c = (search (rules, others_done), search rules)
