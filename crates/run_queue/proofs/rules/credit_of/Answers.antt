use Rattle.run_queue.proofs.RuleLaws.{credit_yes, credit_no}
use borrow.Author.Rules.{rules}
use Rattle.run_queue.proofs.rules.credit_of.Goals as goal

pub returns-then-batches-at-eq0 : goal.returns-then-batches-at-eq0
returns-then-batches-at-eq0 c = search (rules, credit_yes)

pub returns-else-batches-at-eq0 : goal.returns-else-batches-at-eq0
returns-else-batches-at-eq0 c = search (rules, credit_no)
