use borrow.Author.Rules.{rules}
use Rattle.call_plan.proofs.rules.LineLaws.{marked_start, marked_on, marked_end}
use Rattle.call_plan.proofs.rules.lines.mark_row.Goals as goal

-- src/lines.rt:106:5
pub loop-i-init : goal.loop-i-init
loop-i-init c = search (rules, marked_start)

-- src/lines.rt:106:5
pub loop-i-preserved : goal.loop-i-preserved
loop-i-preserved c = search (rules, marked_on)

-- src/lines.rt:101:1
pub returns : goal.returns
returns c = search (rules, marked_end)
