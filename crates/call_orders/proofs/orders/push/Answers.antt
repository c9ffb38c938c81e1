use Rattle.call_orders.proofs.OrderLaws.{pushed}
use Rattle.call_orders.proofs.orders.push.Goals as goal

-- src/orders.rt:29:1
pub returns : goal.returns
returns c = search pushed
