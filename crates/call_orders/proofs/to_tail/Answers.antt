use Rattle.call_orders.proofs.StageLaws.{tail_queued, tail_pending}
use borrow.Author.Rules.{rules}
use Rattle.call_orders.proofs.to_tail.Goals as goal

-- src/lib.rt:57:9
pub returns-then-is_due : goal.returns-then-is_due
returns-then-is_due c = search (rules, tail_queued)

-- src/lib.rt:50:1
pub returns : goal.returns
returns c = search (rules, tail_pending)
