use Rattle.codes.specs.Codes.{short_text}
use Rattle.text_put.proofs.Laws.{Putting}
use Rattle.text_put.proofs.short_code.Given as goal

abbrev pub invariant-loop-i : goal.invariant-loop-i
invariant-loop-i l = Putting l.initial.out (short_text l.v) l.at l.out l.i
