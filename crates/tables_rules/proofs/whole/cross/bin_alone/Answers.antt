use Rattle.std.proofs.Common.{rules}
use Rattle.tables_rules.proofs.whole.CrossLaws.{bin_start, bin_end, bin_skip, bin_not, bin_on}
use Rattle.tables_rules.proofs.whole.cross.bin_alone.Goals as goal

pub loop-place-init : goal.loop-place-init
loop-place-init c = (search rules, bin_start c.args.batches.now c.args.from c.args.high c.args.low)

pub loop-place-preserved-then-batches-place-eq0 : goal.loop-place-preserved-then-batches-place-eq0
loop-place-preserved-then-batches-place-eq0 c = (search rules, bin_skip c.args.batches.now c.loop-place.place c.args.high c.args.low c.loop-place.invariant.1 c.loop-place-test.true c.if-batches-place-eq0.true)

pub returns-then-same : goal.returns-then-same
returns-then-same c = bin_not c.args.batches.now c.loop-place.place c.args.high c.args.low c.loop-place.invariant.1 c.loop-place-test.true c.if-batches-place-eq0.false c.same.ensures c.if-same.true

pub loop-place-preserved : goal.loop-place-preserved
loop-place-preserved c = (search rules, bin_on c.args.batches.now c.loop-place.place c.args.high c.args.low c.loop-place.invariant.1 c.loop-place-test.true c.if-batches-place-eq0.false c.same.ensures c.if-same.false)

pub returns : goal.returns
returns c = bin_end c.args.batches.now c.loop-place.place c.args.high c.args.low c.loop-place.invariant.1 c.loop-place-test.false
