use Rattle.call_plan.proofs.plan.FindingLaws.{waits_pending, waits_queued}
use borrow.Author.Rules.{rules}
use Rattle.call_plan.proofs.plan.finding.waits.Goals as goal

pub returns-then-is_some : goal.returns-then-is_some
returns-then-is_some c = search (rules, waits_pending)

pub returns-else-is_some : goal.returns-else-is_some
returns-else-is_some c = search (rules, waits_queued)
