use Rattle.std.proofs.Common.{arith, rules}
use Rattle.tables_rules.proofs.payments.MoneyLaws.{sum_start, sum_cents, sum_credit, sum_debit, sum_end}
use Rattle.tables_rules.proofs.payments.money.even.Goals as goal

pub loop-j-init : goal.loop-j-init
loop-j-init c = search (rules, sum_start)

pub overflow_add-credit : goal.overflow_add-credit
overflow_add-credit c = omega (arith, sum_cents _ _ _ _ _ c.loop-j.invariant.2 c.loop-j-test.true, c.loop-j.invariant.2.small)

pub loop-j-preserved-then-row-j-eq0 : goal.loop-j-preserved-then-row-j-eq0
loop-j-preserved-then-row-j-eq0 c = search (rules, sum_credit)

pub overflow_add-debit : goal.overflow_add-debit
overflow_add-debit c = omega (arith, sum_cents _ _ _ _ _ c.loop-j.invariant.2 c.loop-j-test.true, c.loop-j.invariant.2.small)

pub loop-j-preserved : goal.loop-j-preserved
loop-j-preserved c = search (rules, sum_debit)

pub returns : goal.returns
returns c = search (rules, sum_end)
