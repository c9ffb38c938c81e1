use Rattle.tables.proofs.RowLaws.{cleared}
use borrow.Author.Rules.{rules}
use Rattle.tables.proofs.places.end_batch.Goals as goal

pub returns : goal.returns
returns c = search (rules, cleared)
