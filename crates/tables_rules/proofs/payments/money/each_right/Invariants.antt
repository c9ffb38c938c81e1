use Rattle.settle.specs.Payments.{payments_from}
use Rattle.book_read.specs.Range.{Each}
use Rattle.tables.proofs.TestLaws.{Both}
use Rattle.std.proofs.Common.{◌≤◌}
use Rattle.tables_rules.proofs.payments.MoneyLaws.{Sound, pays_from}
use Rattle.tables_rules.proofs.payments.money.each_right.Given as goal

abbrev pub invariant-loop-j : goal.invariant-loop-j
invariant-loop-j l = (l.j ≤ l.n) × Both (Each (Sound l.banks) (payments_from l.row 49 l.n)) (Each (Sound l.banks) (pays_from l.row l.n l.j))
