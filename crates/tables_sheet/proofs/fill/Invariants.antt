use Rattle.tables_sheet.proofs.Filling.{Filling}
use Rattle.tables_sheet.proofs.fill.Given as goal

abbrev pub invariant-loop-place : goal.invariant-loop-place
invariant-loop-place l = Filling l.batches l.sheet l.place
