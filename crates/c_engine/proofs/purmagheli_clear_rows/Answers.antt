use Rattle.c_engine.proofs.Laws.{clear_uneven, clear_done}
use Rattle.c_engine.proofs.purmagheli_clear_rows.Goals as goal

pub returns-then-not-rows_long : goal.returns-then-not-rows_long
returns-then-not-rows_long c = clear_uneven _ c.rows_long.result _ c.rows_long.ensures c.if-not-rows_long.true-raw c.number.ensures

pub returns : goal.returns
returns c = clear_done _ _ _ _ _ c.rows_long.result c.rows_long.ensures c.if-not-rows_long.false-raw _ _ _ _ _ c.clear.ensures c.clear-2.ensures c.clear-3.ensures c.clear-4.ensures c.clear-5.ensures
