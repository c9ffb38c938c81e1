use borrow.Author.Rules.{rules}
use Rattle.call_plan.proofs.rules.MessageLaws.{numbered_start, numbered_here, numbered_on, numbered_end}
use Rattle.call_plan.proofs.rules.messages.has_number.Goals as goal

-- src/messages.rt:36:5
pub loop-i-init : goal.loop-i-init
loop-i-init c = search (rules, numbered_start)

-- src/messages.rt:38:13
pub returns-then-row-i : goal.returns-then-row-i
returns-then-row-i c = search (rules, numbered_here)

-- src/messages.rt:36:5
pub loop-i-preserved : goal.loop-i-preserved
loop-i-preserved c = search (rules, numbered_on)

-- src/messages.rt:30:1
pub returns : goal.returns
returns c = search (rules, numbered_end)
