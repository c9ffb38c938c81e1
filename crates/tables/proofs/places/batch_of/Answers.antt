use Rattle.tables.proofs.RowLaws.{bins_end, bins_here, bins_on}
use borrow.Author.Rules.{rules}
use Rattle.tables.proofs.places.batch_of.Goals as goal

pub returns-then-has_bin : goal.returns-then-has_bin
returns-then-has_bin c = search (rules, bins_here)

pub loop-place-preserved : goal.loop-place-preserved
loop-place-preserved c = search (rules, bins_on)

pub returns : goal.returns
returns c = search (rules, bins_end)
