use Rattle.std.proofs.Common.{rules}
use Rattle.tables_rules.proofs.batches.HeadLaws.{number_start, number_end, number_not, number_on}
use Rattle.tables_rules.proofs.batches.heads.numbers_apart.Goals as goal

pub loop-i-init : goal.loop-i-init
loop-i-init c = search (rules, number_start)

pub returns-then-not-mark : goal.returns-then-not-mark
returns-then-not-mark c = search (rules, number_not)

pub loop-i-preserved : goal.loop-i-preserved
loop-i-preserved c = (search rules, search rules, search number_on)

pub returns : goal.returns
returns c = number_end c.args.row.now _ _ c.loop-i.seen c.loop-i.invariant.2 c.loop-i-test.false
