use Rattle.call_orders.proofs.EndLaws.{try_failed, try_passed}
use borrow.Author.Rules.{rules}
use Rattle.call_orders.proofs.settled.end_try.Goals as goal

-- src/settled.rt:27:9
pub returns-then-tried-ne1 : goal.returns-then-tried-ne1
returns-then-tried-ne1 c = search try_failed

-- src/settled.rt:22:1
pub returns : goal.returns
returns c = search (rules, try_passed)
