use Rattle.std.proofs.Common.{rules}
use Rattle.tables_rules.proofs.batches.OrderLaws.{count_end, count_here, count_on}
use Rattle.tables_rules.proofs.batches.orders.how_many.Goals as goal

pub loop-place-preserved-then-batches-place : goal.loop-place-preserved-then-batches-place
loop-place-preserved-then-batches-place c = search (rules, count_on)

pub loop-place-preserved : goal.loop-place-preserved
loop-place-preserved c = search (rules, count_here)

pub returns : goal.returns
returns c = search (rules, count_end)
