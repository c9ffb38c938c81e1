use borrow.Author.Rules.{rules}
use Rattle.tables.proofs.RowLaws.{free_end, free_here, free_on}
use Rattle.tables.proofs.places.lowest_free.Goals as goal

pub returns-then-batches-place-eq0 : goal.returns-then-batches-place-eq0
returns-then-batches-place-eq0 c = search (rules, free_here)

pub loop-place-preserved : goal.loop-place-preserved
loop-place-preserved c = search (rules, free_on)

pub returns : goal.returns
returns c = search (rules, free_end)
