use Rattle.call_orders.proofs.StageLaws.{ended_so}
use borrow.Author.Rules.{rules}
use Rattle.call_orders.proofs.end_batch.Goals as goal

-- src/lib.rt:35:1
pub returns : goal.returns
returns c = search (rules, ended_so)
