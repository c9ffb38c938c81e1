use Rattle.call_plan.proofs.plan.PlanLaws.{settlement_used, settlement_full, settlement_noted}
use borrow.Author.Rules.{rules}
use Rattle.call_plan.proofs.plan.settlement_plan.Goals as goal

pub returns-in-Used : goal.returns-in-Used
returns-in-Used c = search (rules, settlement_used)

pub returns-in-Full : goal.returns-in-Full
returns-in-Full c = search (rules, settlement_full)

pub returns : goal.returns
returns c = search (rules, settlement_noted)
