use Rattle.std.proofs.Common.{◌≡◌, ◌≤◌, length}
use Rattle.settle.specs.Payments.{payments_from}
use Rattle.tables.proofs.TestLaws.{Both}
use Rattle.tables_rules.specs.payments.Marks.{banks_of, Below}
use Rattle.tables_rules.proofs.payments.MarkLaws.{Fresh}
use Rattle.tables_rules.proofs.payments.MoneyLaws.{pays_from}
use Rattle.tables_rules.proofs.payments.money.banks_apart.Given as goal

abbrev pub invariant-loop-j : goal.invariant-loop-j
invariant-loop-j l = (l.j ≤ l.n) × (length l.seen ≡ 64) × Both (Below l.banks (banks_of (payments_from l.row 49 l.n))) (Fresh l.banks l.seen (banks_of (pays_from l.row l.n l.j)))
