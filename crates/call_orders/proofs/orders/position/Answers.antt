use borrow.Author.Rules.{rules}
use Rattle.call_orders.proofs.OrderLaws.{order_here, order_on, order_end}
use Rattle.call_orders.proofs.orders.position.Goals as goal

-- src/orders.rt:21:13
pub returns-then-order-i : goal.returns-then-order-i
returns-then-order-i c = search (rules, order_here)

-- src/orders.rt:19:5
pub loop-i-preserved : goal.loop-i-preserved
loop-i-preserved c = search (rules, order_on)

-- src/orders.rt:14:1
pub returns : goal.returns
returns c = search (rules, order_end)
