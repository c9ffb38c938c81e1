use Rattle.call_plan.proofs.plan.PlanLaws.{known_here, known_none}
use borrow.Author.Rules.{rules}
use Rattle.call_plan.proofs.plan.on_known.Goals as goal

-- src/lib.rt:54:1
pub returns-in-Some : goal.returns-in-Some
returns-in-Some c = search (rules, known_here)

-- src/lib.rt:54:1
pub returns-in-None : goal.returns-in-None
returns-in-None c = search (rules, known_none)
