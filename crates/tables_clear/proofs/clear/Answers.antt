use Rattle.tables_clear.proofs.Laws.{clear_short, clear_uneven, clear_done}
use Rattle.tables_clear.proofs.clear.Goals as goal

pub returns-then-not-lengths_right : goal.returns-then-not-lengths_right
returns-then-not-lengths_right c = search clear_short

pub returns-then-not-rows_long : goal.returns-then-not-rows_long
returns-then-not-rows_long c = search clear_uneven

pub returns : goal.returns
returns c =
    clear_done _ _ _ _ _ _ _ _ _
    c.lengths_right.result
    c.lengths_right.ensures
    c.rows_long.result
    c.rows_long.ensures
    c.if-not-lengths_right.false-raw
    c.if-not-rows_long.false-raw
    _ _ _ _ _ _ _ _ _
    c.wipe_accounts.ensures
    c.wipe_rows.ensures
    c.no_day-desk.ensures
