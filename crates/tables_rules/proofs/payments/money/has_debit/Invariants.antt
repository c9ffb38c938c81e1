use Rattle.std.proofs.Common.{◌≤◌}
use Rattle.tables_rules.proofs.payments.MoneyLaws.{Sought}
use Rattle.tables_rules.proofs.payments.money.has_debit.Given as goal

abbrev pub invariant-loop-j : goal.invariant-loop-j
invariant-loop-j l = (l.j ≤ l.n) × Sought l.row l.n l.bank l.j
