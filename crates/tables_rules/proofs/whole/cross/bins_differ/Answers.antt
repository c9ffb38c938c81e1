use Rattle.std.proofs.Common.{rules}
use Rattle.tables_rules.proofs.whole.CrossLaws.{differ_start, differ_end, differ_skip, differ_not, differ_on}
use Rattle.tables_rules.proofs.whole.cross.bins_differ.Goals as goal

pub loop-place-init : goal.loop-place-init
loop-place-init c = (search rules, differ_start c.args.batches.now)

pub loop-place-preserved-then-batches-place-eq0 : goal.loop-place-preserved-then-batches-place-eq0
loop-place-preserved-then-batches-place-eq0 c = (search rules, differ_skip c.args.batches.now c.loop-place.place c.loop-place.invariant.1 c.loop-place-test.true c.if-batches-place-eq0.true)

pub returns-then-not-bin_alone : goal.returns-then-not-bin_alone
returns-then-not-bin_alone c = differ_not c.args.batches.now c.loop-place.place c.loop-place.invariant.1 c.loop-place-test.true c.if-batches-place-eq0.false c.bin_alone.result c.bin_alone.ensures c.if-not-bin_alone.true-raw

pub loop-place-preserved : goal.loop-place-preserved
loop-place-preserved c = (search rules, differ_on c.args.batches.now c.loop-place.place c.loop-place.invariant.1 c.loop-place-test.true c.if-batches-place-eq0.false c.bin_alone.result c.bin_alone.ensures c.if-not-bin_alone.false-raw)

pub returns : goal.returns
returns c = differ_end c.args.batches.now c.loop-place.place c.loop-place.invariant.1 c.loop-place-test.false
