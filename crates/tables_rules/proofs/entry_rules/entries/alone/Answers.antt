use Rattle.std.proofs.Common.{rules}
use Rattle.tables_rules.proofs.entry_rules.EntryLaws.{alone_start, alone_end, alone_skip, alone_not, alone_on}
use Rattle.tables_rules.proofs.entry_rules.entries.alone.Goals as goal

pub loop-i-init : goal.loop-i-init
loop-i-init c = (search rules, alone_start c.args.t.now c.args.n c.args.today c.args.high c.args.low c.args.from)

pub loop-i-preserved-then-not-kept : goal.loop-i-preserved-then-not-kept
loop-i-preserved-then-not-kept c = (search rules, alone_skip c.args.t.now c.args.n c.args.today c.loop-i.i c.loop-i-test.true c.kept.ensures c.args.high c.args.low c.loop-i.invariant.1 c.if-not-kept.true-raw)

pub returns-then-same : goal.returns-then-same
returns-then-same c = alone_not c.args.t.now c.args.n c.args.today c.loop-i.i c.loop-i-test.true c.kept.ensures c.args.high c.args.low c.loop-i.invariant.1 c.if-not-kept.false-raw c.same.ensures c.if-same.true

pub loop-i-preserved : goal.loop-i-preserved
loop-i-preserved c = (search rules, alone_on c.args.t.now c.args.n c.args.today c.loop-i.i c.loop-i-test.true c.kept.ensures c.args.high c.args.low c.loop-i.invariant.1 c.if-not-kept.false-raw c.same.ensures c.if-same.false)

pub returns : goal.returns
returns c = alone_end c.args.t.now c.args.n c.args.today c.args.high c.args.low c.loop-i.i c.loop-i.invariant.1 c.loop-i-test.false
