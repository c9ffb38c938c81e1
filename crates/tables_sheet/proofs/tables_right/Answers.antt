use Rattle.tables_sheet.proofs.Laws.{tables_broken, tables_ruled, tables_sheet}
use Rattle.tables_sheet.proofs.tables_right.Goals as goal

pub returns-then-not-tables_right : goal.returns-then-not-tables_right
returns-then-not-tables_right c = search tables_broken

pub right-requires : goal.right-requires
right-requires c = search tables_ruled

pub returns : goal.returns
returns c = search tables_sheet
