use Rattle.call_orders.proofs.OrderLaws.{kept_yes, kept_no}
use borrow.Author.Rules.{rules}
use Rattle.call_orders.proofs.orders.kept.Goals as goal

-- src/orders.rt:37:1
pub returns-then-keep : goal.returns-then-keep
returns-then-keep c = (search kept_yes, search rules)

-- src/orders.rt:37:1
pub returns-else-keep : goal.returns-else-keep
returns-else-keep c = (search kept_no, search rules)
