use Rattle.settle.proofs.Laws.{left_from}
use Rattle.tables_sheet.proofs.Adding.{Adding}
use Rattle.tables_sheet.proofs.add_row.Given as goal

abbrev pub invariant-loop-i : goal.invariant-loop-i
invariant-loop-i l = Adding l.row l.initial.sheet l.sheet (left_from l.row 49 l.n l.i)
