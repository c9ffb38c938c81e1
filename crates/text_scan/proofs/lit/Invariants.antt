use Rattle.text_scan.proofs.Laws.{Matching}
use Rattle.text_scan.proofs.lit.Given as goal

abbrev pub invariant-loop-i : goal.invariant-loop-i
invariant-loop-i l = Matching l.s l.at l.tag l.i
