use Rattle.call_day.proofs.Laws.{all_replaced}
use borrow.Author.Rules.{rules}
use Rattle.call_day.proofs.take_over.Goals as goal

-- src/lib.rt:52:1
pub returns : goal.returns
returns c = search (rules, all_replaced)
