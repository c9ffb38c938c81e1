use Rattle.std.proofs.Common.{◌≤◌}
use Rattle.tables_rules.proofs.payments.MoneyLaws.{Summed}
use Rattle.tables_rules.proofs.payments.money.even.Given as goal

abbrev pub invariant-loop-j : goal.invariant-loop-j
invariant-loop-j l = (l.j ≤ l.n) × (l.n ≤ 100) × Summed l.row l.n l.j l.credit l.debit
