use Rattle.cli_script.proofs.Laws.{Counting}
use Rattle.cli_script.proofs.number_from.Given as goal

abbrev pub invariant-loop-i : goal.invariant-loop-i
invariant-loop-i l = Counting l.s l.at l.i l.v
