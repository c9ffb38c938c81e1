use Rattle.cli_request.proofs.RefusalLaws.{Finding}
use Rattle.cli_request.proofs.refusals.payment_of.Given as goal

abbrev pub invariant-loop-k : goal.invariant-loop-k
invariant-loop-k l = Finding l.payments l.n l.from l.line l.k l.end
