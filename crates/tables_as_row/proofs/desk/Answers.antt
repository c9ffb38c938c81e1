use Rattle.tables_as_row.proofs.Laws.{desk_read}
use borrow.Author.Rules.{rules}
use Rattle.tables_as_row.proofs.desk.Goals as goal

pub returns : goal.returns
returns c = search (rules, desk_read)
