use Rattle.std.proofs.Common.{rules}
use Rattle.tables_rules.proofs.batches.RowTests.{rows_done, rows_not, rows_on, rows_start}
use Rattle.tables_rules.proofs.batches.rows_right.Goals as goal

pub loop-place-init : goal.loop-place-init
loop-place-init c = search (rules, rows_start)

pub returns-then-not-row_right : goal.returns-then-not-row_right
returns-then-not-row_right c = search (rules, rows_not)

pub loop-place-preserved : goal.loop-place-preserved
loop-place-preserved c = search (rules, rows_on)

pub returns : goal.returns
returns c = rows_done c.args.banks c.args.batches.now c.loop-place.place c.loop-place.invariant.1 c.loop-place-test.false
