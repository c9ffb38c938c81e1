use mathlib.Core.Path.{◌≡◌}
use lib.ListN.{get_or}
use Rattle.call_plan.proofs.rules.LineLaws.{marked_from}
use Rattle.call_plan.proofs.rules.lines.mark_row.Given as goal

abbrev pub invariant-loop-i : goal.invariant-loop-i
invariant-loop-i l = l.taken ≡ marked_from l.row (get_or l.row 8 0) l.initial.taken l.i
