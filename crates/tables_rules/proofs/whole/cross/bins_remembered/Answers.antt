use Rattle.tables.specs.Rows.{entries_in}
use Rattle.std.proofs.Common.{rules}
use Rattle.model.specs.Rules.{remembered}
use Rattle.tables_rules.proofs.whole.CrossLaws.{has_start, has_end, has_skip, has_not, has_on, all_entries}
use Rattle.tables_rules.proofs.whole.cross.bins_remembered.Goals as goal

pub loop-place-init : goal.loop-place-init
loop-place-init c = (search rules, has_start c.args.batches.now (remembered c.args.today (entries_in 512 c.args.bins.now)))

pub loop-place-preserved-then-batches-place-eq0 : goal.loop-place-preserved-then-batches-place-eq0
loop-place-preserved-then-batches-place-eq0 c = (search rules, has_skip c.args.batches.now c.loop-place.place (remembered c.args.today (entries_in 512 c.args.bins.now)) c.loop-place.invariant.1 c.loop-place-test.true c.if-batches-place-eq0.true)

pub returns-then-alone : goal.returns-then-alone
returns-then-alone c = has_not c.args.batches.now c.loop-place.place (remembered c.args.today (entries_in 512 c.args.bins.now)) c.loop-place.invariant.1 c.loop-place-test.true c.if-batches-place-eq0.false c.alone.result (all_entries c.args.bins.now c.args.today _ _ c.alone.result c.alone.ensures) c.if-alone.true

pub loop-place-preserved : goal.loop-place-preserved
loop-place-preserved c = (search rules, has_on c.args.batches.now c.loop-place.place (remembered c.args.today (entries_in 512 c.args.bins.now)) c.loop-place.invariant.1 c.loop-place-test.true c.if-batches-place-eq0.false c.alone.result (all_entries c.args.bins.now c.args.today _ _ c.alone.result c.alone.ensures) c.if-alone.false)

pub returns : goal.returns
returns c = has_end c.args.batches.now c.loop-place.place (remembered c.args.today (entries_in 512 c.args.bins.now)) c.loop-place.invariant.1 c.loop-place-test.false
