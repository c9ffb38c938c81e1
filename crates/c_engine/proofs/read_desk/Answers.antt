use Rattle.c_engine.proofs.Desks.{desk_read}
use borrow.Author.Rules.{rules}
use Rattle.c_engine.proofs.read_desk.Goals as goal

pub returns : goal.returns
returns c = search (rules, desk_read)
