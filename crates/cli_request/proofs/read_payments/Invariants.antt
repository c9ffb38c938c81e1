use Rattle.cli_request.proofs.Laws.{Going}
use Rattle.cli_request.proofs.read_payments.Given as goal

abbrev pub invariant-loop-n : goal.invariant-loop-n
invariant-loop-n l = Going l.s l.at l.payments l.n l.here
