use Rattle.call_columns.proofs.ColumnLaws.{clear_columns}
use Rattle.call_columns.proofs.columns.clear.Goals as goal

pub returns : goal.returns
returns c =
    clear_columns _ _ _ _ _ _ _ _ _ _ _ _ _ _ _ _ _ _ _
    c.row_of-row.ensures
    c.clear_row-left.ensures
    c.load.ensures
