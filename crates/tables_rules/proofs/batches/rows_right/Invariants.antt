use Rattle.tables_rules.specs.batch_rules.BatchRules.{RowRight}
use Rattle.tables.specs.Rows.{batch_rows}
use Rattle.book_read.specs.Range.{Each}
use Rattle.tables.proofs.TestLaws.{Both}
use Rattle.std.proofs.Common.{◌≤◌}
use Rattle.tables_rules.proofs.batches.OrderLaws.{rows_from}
use Rattle.tables_rules.proofs.batches.rows_right.Given as goal

abbrev pub invariant-loop-place : goal.invariant-loop-place
invariant-loop-place l = (l.place ≤ 32) × Both (Each (RowRight l.banks) (batch_rows l.batches)) (Each (RowRight l.banks) (rows_from l.batches l.place))
