use Rattle.tables.specs.Rows.{how_many, batch_rows}
use Rattle.std.proofs.Common.{◌≡◌, ◌+◌, ◌≤◌}
use Rattle.tables_rules.proofs.batches.OrderLaws.{rows_from}
use Rattle.tables_rules.proofs.batches.orders.how_many.Given as goal

abbrev pub invariant-loop-place : goal.invariant-loop-place
invariant-loop-place l = (l.place ≤ 32) × (l.n ≤ l.place) × (l.n + how_many l.phase (rows_from l.batches l.place) ≡ how_many l.phase (batch_rows l.batches))
