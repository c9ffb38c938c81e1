use Rattle.queue.proofs.TurnLaws.{omits_quick, omits_plain}
use borrow.Author.Rules.{rules}
use Rattle.queue.proofs.omits.Goals as goal

pub returns-then-quick : goal.returns-then-quick
returns-then-quick c = search (rules, omits_quick)

pub returns-else-quick : goal.returns-else-quick
returns-else-quick c = search (rules, omits_plain)
