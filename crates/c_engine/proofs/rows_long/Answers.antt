use Rattle.c_engine.proofs.Laws.{rows_last}
use borrow.Author.Rules.{rules}
use Rattle.c_engine.proofs.rows_long.Goals as goal

pub returns : goal.returns
returns c = search (rules, rows_last)
