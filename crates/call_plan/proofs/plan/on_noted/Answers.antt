use Rattle.call_plan.proofs.plan.PlanLaws.{noted_known, noted_full, noted_new}
use borrow.Author.Rules.{rules}
use Rattle.call_plan.proofs.plan.on_noted.Goals as goal

pub returns-in-Used : goal.returns-in-Used
returns-in-Used c = search (rules, noted_known)

pub returns-in-Full : goal.returns-in-Full
returns-in-Full c = search (rules, noted_full)

pub returns-in-Free : goal.returns-in-Free
returns-in-Free c = search (rules, noted_new)
