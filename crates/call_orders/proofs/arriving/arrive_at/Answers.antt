use Rattle.call_orders.proofs.ArriveLaws.{lent_roomy, arrived_at_lem}
use borrow.Author.Rules.{rules}
use Rattle.call_orders.proofs.arriving.arrive_at.Goals as goal

-- src/arriving.rt:50:5
pub arrive-requires : goal.arrive-requires
arrive-requires c = search (rules, lent_roomy)

-- src/arriving.rt:43:1
pub returns : goal.returns
returns c = search (rules, arrived_at_lem)
