use Rattle.call_orders.proofs.StageLaws.{joined_so}
use borrow.Author.Rules.{rules}
use Rattle.call_orders.proofs.join.Goals as goal

-- src/lib.rt:70:1
pub returns : goal.returns
returns c = record { became = search (rules, joined_so); pending_le_nw = search rules }
