use Rattle.request_write.proofs.Laws.{Paying}
use Rattle.request_write.proofs.put_payments.Given as goal

abbrev pub invariant-loop-i : goal.invariant-loop-i
invariant-loop-i l = Paying l.lines l.n l.initial.out l.at l.out l.i l.a
