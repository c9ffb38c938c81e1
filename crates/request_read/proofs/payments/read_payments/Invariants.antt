use Rattle.request_read.proofs.payments.Laws.{Going}
use Rattle.request_read.proofs.payments.read_payments.Given as goal

abbrev pub invariant-loop-n : goal.invariant-loop-n
invariant-loop-n l = Going l.s l.initial.at l.items l.n l.at
