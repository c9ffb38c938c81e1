use Rattle.model.specs.Kinds.{kind_of}
use mathlib.Core.Path.{sym, ap}
use Rattle.call.proofs.entry.kind_of.Goals as goal

pub returns-in-ClosingBook : goal.returns-in-ClosingBook
returns-in-ClosingBook c = sym (ap kind_of c.in-ClosingBook.is)
