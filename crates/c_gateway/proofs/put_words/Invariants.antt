use Rattle.text_put.proofs.Laws.{Putting}
use Rattle.c_gateway.proofs.put_words.Given as goal

abbrev pub invariant-loop-i : goal.invariant-loop-i
invariant-loop-i l = Putting l.initial.row l.words l.at l.row l.i
