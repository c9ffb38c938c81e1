use lib.Dec.{eqb}
use lib.ListN.{get_or}
use Rattle.tables.proofs.HouseLaws.{joined_zero, zeroed_on}
use Rattle.tables.proofs.house.zero.Goals as goal

pub loop-word-preserved : goal.loop-word-preserved
loop-word-preserved c =
    let l = c.loop-word in
    zeroed_on c.args.row.now l.word-index (eqb l.any 0) l.invariant c.loop-word-test.true (joined_zero l.any (get_or c.args.row.now l.word-index 0))
