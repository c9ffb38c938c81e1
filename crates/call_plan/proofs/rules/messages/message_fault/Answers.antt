use borrow.Author.Rules.{rules}
use Rattle.std.proofs.lemmas.Result.{err_from_is_err_and}
use Rattle.call_plan.proofs.rules.Meets.{message_stops}
use Rattle.call_plan.proofs.rules.messages.message_fault.Goals as goal

pub returns-in_err-head_fault : goal.returns-in_err-head_fault
returns-in_err-head_fault c = let p = err_from_is_err_and c.from_residual.result c.from_residual.ensures.1 in rw (p.1, p.2) (search (rules, message_stops, c.in_err-head_fault.was))
