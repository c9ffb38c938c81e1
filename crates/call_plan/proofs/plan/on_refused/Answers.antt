use Rattle.call_plan.proofs.plan.PlanLaws.{refused_here, refused_none}
use borrow.Author.Rules.{rules}
use Rattle.call_plan.proofs.plan.on_refused.Goals as goal

-- src/lib.rt:44:1
pub returns-in-Some : goal.returns-in-Some
returns-in-Some c = search (rules, refused_here)

-- src/lib.rt:44:1
pub returns-in-None : goal.returns-in-None
returns-in-None c = search (rules, refused_none)
