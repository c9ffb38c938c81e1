use Rattle.text_put.proofs.Laws.{Putting}
use Rattle.text_put.proofs.bytes.Given as goal

abbrev pub invariant-loop-i : goal.invariant-loop-i
invariant-loop-i l = Putting l.initial.out l.text l.at l.out l.i
