use Rattle.std.proofs.Common.{rules}
use Rattle.tables_rules.proofs.batches.OrderLaws.{ranks_start, rank_end, rank_skip, rank_not, rank_on}
use Rattle.tables_rules.proofs.batches.orders.ranks_right.Goals as goal

pub loop-place-init : goal.loop-place-init
loop-place-init c = search (rules, ranks_start)

pub loop-place-preserved-then-batches-place : goal.loop-place-preserved-then-batches-place
loop-place-preserved-then-batches-place c = search (rules, rank_skip)

pub returns-then-not-mark : goal.returns-then-not-mark
returns-then-not-mark c = search (rules, rank_not)

pub loop-place-preserved : goal.loop-place-preserved
loop-place-preserved c = (search rules, search rules, rank_on _ _ _ c.loop-place.place c.loop-place.seen c.loop-place.invariant.2 (search rules) (search rules) c.mark.ensures (search rules) (search rules) (search rules))

pub returns : goal.returns
returns c = rank_end _ _ _ c.loop-place.place c.loop-place.seen c.loop-place.invariant.2 c.loop-place-test.false
