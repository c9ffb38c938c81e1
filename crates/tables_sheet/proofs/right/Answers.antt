use Rattle.tables_sheet.proofs.Laws.{right_same}
use Rattle.tables_sheet.proofs.right.Goals as goal

pub returns : goal.returns
returns c = right_same _ _ _ _ c.fill.ensures c.as_slice.ensures _ c.eq.ensures
