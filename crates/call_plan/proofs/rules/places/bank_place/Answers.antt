use borrow.Author.Rules.{rules}
use Rattle.call_orders.proofs.OrderLaws.{order_here, order_on, order_end}
use Rattle.call_plan.proofs.rules.PlaceLaws.{banks_start}
use Rattle.call_plan.proofs.rules.places.bank_place.Goals as goal

-- src/places.rt:17:5
pub loop-i-init : goal.loop-i-init
loop-i-init c = search (rules, banks_start)

-- src/places.rt:19:13
pub returns-then-codes-i : goal.returns-then-codes-i
returns-then-codes-i c = search (rules, order_here)

-- src/places.rt:17:5
pub loop-i-preserved : goal.loop-i-preserved
loop-i-preserved c = search (rules, order_on)

-- src/places.rt:12:1
pub returns : goal.returns
returns c = search (rules, order_end)
