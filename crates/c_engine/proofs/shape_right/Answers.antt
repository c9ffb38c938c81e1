use Rattle.c_engine.proofs.Laws.{shape_last}
use borrow.Author.Rules.{rules}
use Rattle.c_engine.proofs.shape_right.Goals as goal

pub returns : goal.returns
returns c = search (rules, shape_last)
