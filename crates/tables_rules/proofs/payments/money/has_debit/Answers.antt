use Rattle.std.proofs.Common.{rules}
use Rattle.tables_rules.proofs.payments.MoneyLaws.{debit_start, debit_skip, debit_here, debit_on_lem, debit_end}
use Rattle.tables_rules.proofs.payments.money.has_debit.Goals as goal

pub loop-j-init : goal.loop-j-init
loop-j-init c = search (rules, debit_start)

pub loop-j-preserved-then-row-j-eq0 : goal.loop-j-preserved-then-row-j-eq0
loop-j-preserved-then-row-j-eq0 c = search (rules, debit_skip)

pub returns-then-row-j : goal.returns-then-row-j
returns-then-row-j c = search (rules, debit_here)

pub loop-j-preserved : goal.loop-j-preserved
loop-j-preserved c = search (rules, debit_on_lem)

pub returns : goal.returns
returns c = search (rules, debit_end)
