use Rattle.call_change.proofs.DebitLaws.{row_room, relettered_at}
use borrow.Author.Rules.{rules}
use Rattle.call_change.proofs.debits.reletter_at.Goals as goal

-- src/debits.rt:60:5
pub reletter-requires : goal.reletter-requires
reletter-requires c = search (rules, row_room)

-- src/debits.rt:53:1
pub returns : goal.returns
returns c = search (rules, relettered_at)
