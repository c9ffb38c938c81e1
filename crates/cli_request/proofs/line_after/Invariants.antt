use Rattle.cli_request.proofs.Laws.{Seeking}
use Rattle.cli_request.proofs.line_after.Given as goal

abbrev pub invariant-loop-i : goal.invariant-loop-i
invariant-loop-i l = Seeking l.s l.at l.i
