use Rattle.call_orders.proofs.ArriveLaws.{lent_free, begun_at}
use borrow.Author.Rules.{rules}
use Rattle.call_orders.proofs.arriving.begin_at.Goals as goal

-- src/arriving.rt:61:5
pub begin-requires : goal.begin-requires
begin-requires c = search (rules, lent_free)

-- src/arriving.rt:55:1
pub returns : goal.returns
returns c = search (rules, begun_at)
