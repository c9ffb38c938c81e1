use borrow.Author.Rules.{rules}
use Rattle.call_plan.proofs.rules.LineLaws.{set_past}
use Rattle.call_plan.proofs.rules.lines.mark.Goals as goal

-- src/lines.rt:91:1
pub returns-else-p-taken : goal.returns-else-p-taken
returns-else-p-taken c = search (rules, set_past)
