use Rattle.std.proofs.Common.{arith, rules}
use Rattle.tables_rules.proofs.batches.HeadLaws.{total_start, size_small, total_on, total_end}
use Rattle.tables_rules.proofs.batches.heads.total.Goals as goal

pub loop-i-init : goal.loop-i-init
loop-i-init c = search (rules, total_start)

pub overflow_add-sum-in-loop-i : goal.overflow_add-sum-in-loop-i
overflow_add-sum-in-loop-i c = omega (arith, size_small _ _ _ _ c.loop-i.invariant.1 c.loop-i-test.true, c.loop-i.invariant.1.small)

pub loop-i-preserved : goal.loop-i-preserved
loop-i-preserved c = search (rules, total_on)

pub returns : goal.returns
returns c = search (rules, total_end)
