use Rattle.queue.proofs.MemoryLaws.{paid_marks, paid_skips}
use borrow.Author.Rules.{rules}
use Rattle.queue.proofs.mark_paid.Goals as goal

pub returns-then-batches-at-eq0 : goal.returns-then-batches-at-eq0
returns-then-batches-at-eq0 c = search (rules, paid_marks)

pub returns-else-batches-at-eq0 : goal.returns-else-batches-at-eq0
returns-else-batches-at-eq0 c = search (rules, paid_skips)
