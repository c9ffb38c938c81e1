use Rattle.call_columns.proofs.ColumnLaws.{call_columns}
use Rattle.call_columns.proofs.columns.call.Goals as goal

pub returns : goal.returns
returns c =
    call_columns _ _ _ _ _ _ _ _ _ _ _ _ _ _ _ _ _ _ _ _ _ _ _ _
    c.row_of-row.ensures
    c.call_row-left.ensures
    c.load.ensures
