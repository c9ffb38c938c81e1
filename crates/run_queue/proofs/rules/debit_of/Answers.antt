use Rattle.run_queue.proofs.RuleLaws.{debit_yes, debit_no}
use borrow.Author.Rules.{rules}
use Rattle.run_queue.proofs.rules.debit_of.Goals as goal

pub returns-then-batches-at-eq0 : goal.returns-then-batches-at-eq0
returns-then-batches-at-eq0 c = search (rules, debit_no)

pub returns-else-batches-at-eq0 : goal.returns-else-batches-at-eq0
returns-else-batches-at-eq0 c = search (rules, debit_yes)
