use Rattle.queue.proofs.MemoryLaws.{woken_none, woken_yes, woken_no}
use borrow.Author.Rules.{rules}
use Rattle.queue.proofs.woken.Goals as goal

pub returns-then-held-eq0 : goal.returns-then-held-eq0
returns-then-held-eq0 c = search (rules, woken_none)

pub returns-then-held-bank : goal.returns-then-held-bank
returns-then-held-bank c = search (rules, woken_yes)

pub returns-else-held-bank : goal.returns-else-held-bank
returns-else-held-bank c = search (rules, woken_no)
