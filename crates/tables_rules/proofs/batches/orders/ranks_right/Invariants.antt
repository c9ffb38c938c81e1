use Rattle.std.proofs.Common.{◌≡◌, ◌≤◌, length}
use Rattle.tables.proofs.TestLaws.{Both}
use Rattle.tables_rules.specs.batch_rules.BatchRules.{ranks_in, Ranked}
use Rattle.tables.specs.Rows.{batch_rows}
use Rattle.tables_rules.proofs.payments.MarkLaws.{Fresh}
use Rattle.tables_rules.proofs.batches.OrderLaws.{rows_from}
use Rattle.tables_rules.proofs.batches.orders.ranks_right.Given as goal

abbrev pub invariant-loop-place : goal.invariant-loop-place
invariant-loop-place l = (l.place ≤ 32) × (length l.seen ≡ 32) × Both (Ranked l.phase (batch_rows l.batches)) (Fresh l.n l.seen (ranks_in l.phase (rows_from l.batches l.place)))
