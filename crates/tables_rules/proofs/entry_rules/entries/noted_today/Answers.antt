use Rattle.std.proofs.Common.{rules}
use Rattle.tables_rules.proofs.entry_rules.EntryLaws.{noted_start, noted_end, noted_skip, noted_on_lem}
use Rattle.tables_rules.proofs.entry_rules.entries.noted_today.Goals as goal

pub loop-i-init : goal.loop-i-init
loop-i-init c = search (rules, noted_start)

pub loop-i-preserved-then-not-noted : goal.loop-i-preserved-then-not-noted
loop-i-preserved-then-not-noted c = (search rules, noted_skip c.args.t.now c.args.n c.args.today c.loop-i.i c.loop-i.count c.loop-i.invariant.1 c.loop-i-test.true c.noted.ensures (search rules))

pub loop-i-preserved : goal.loop-i-preserved
loop-i-preserved c = (search rules, noted_on_lem c.args.t.now c.args.n c.args.today c.loop-i.i c.loop-i.count c.loop-i.invariant.1 c.loop-i-test.true c.noted.ensures (search rules))

pub returns : goal.returns
returns c = noted_end c.args.t.now c.args.n c.args.today c.loop-i.i c.loop-i.count c.loop-i.invariant.1 c.loop-i-test.false c.loop-i.invariant.0
