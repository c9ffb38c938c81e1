use Rattle.std.proofs.Common.{arith, rules}
use Rattle.tables_rules.proofs.whole.CrossLaws.{told_start, told_end, told_few, told_on}
use Rattle.tables_rules.proofs.whole.cross.live_messages.Goals as goal

pub loop-place-init : goal.loop-place-init
loop-place-init c = search (rules, told_start)

pub overflow_add-count-in-loop-place : goal.overflow_add-count-in-loop-place
overflow_add-count-in-loop-place c = omega (arith, told_few c.args.batches.now c.loop-place.place c.loop-place.count c.loop-place.invariant.1 c.loop-place-test.true, c.loop-place.invariant.1.small)

pub loop-place-preserved : goal.loop-place-preserved
loop-place-preserved c = (search rules, told_on c.args.batches.now c.loop-place.place c.loop-place.count c.loop-place.invariant.1 c.loop-place-test.true)

pub returns : goal.returns
returns c = told_end c.args.batches.now c.loop-place.place c.loop-place.count c.loop-place.invariant.1 c.loop-place-test.false c.loop-place.invariant.0
