use Rattle.request_write.proofs.Laws.{name_put, name_out}
use Rattle.request_write.proofs.put_name.Goals as goal

pub returns-then-not-is_proper-clause-puts : goal.returns-then-not-is_proper-clause-puts
returns-then-not-is_proper-clause-puts c = search name_out

pub returns-clause-puts : goal.returns-clause-puts
returns-clause-puts c = search name_put
