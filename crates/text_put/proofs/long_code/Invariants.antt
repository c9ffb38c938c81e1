use Rattle.codes.specs.Codes.{long_text}
use Rattle.text_put.proofs.Laws.{Putting}
use Rattle.text_put.proofs.long_code.Given as goal

abbrev pub invariant-loop-i : goal.invariant-loop-i
invariant-loop-i l = Putting l.initial.out (long_text l.code) l.at l.out l.i
