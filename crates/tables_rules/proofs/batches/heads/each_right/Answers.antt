use Rattle.std.proofs.Common.{rules}
use Rattle.tables_rules.proofs.batches.HeadLaws.{heads_start, heads_end, heads_not, heads_on}
use Rattle.tables_rules.proofs.batches.heads.each_right.Goals as goal

pub loop-i-init : goal.loop-i-init
loop-i-init c = search (rules, heads_start)

pub returns-then-not-head_right : goal.returns-then-not-head_right
returns-then-not-head_right c = search (rules, heads_not)

pub loop-i-preserved : goal.loop-i-preserved
loop-i-preserved c = search (rules, heads_on)

pub returns : goal.returns
returns c = heads_end c.args.row.now c.args.n c.loop-i.i c.args.count c.loop-i.invariant.1 c.loop-i-test.false
