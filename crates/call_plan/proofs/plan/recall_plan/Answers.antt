use Rattle.call_plan.proofs.plan.PlanLaws.{recall_used, recall_full, recall_here, recall_none}
use borrow.Author.Rules.{rules}
use Rattle.call_plan.proofs.plan.recall_plan.Goals as goal

pub returns-in-Used : goal.returns-in-Used
returns-in-Used c = search (rules, recall_used)

pub returns-in-Full : goal.returns-in-Full
returns-in-Full c = search (rules, recall_full)

pub returns-in-Some : goal.returns-in-Some
returns-in-Some c = search (rules, recall_here)

pub returns-in-None : goal.returns-in-None
returns-in-None c = search (rules, recall_none)
