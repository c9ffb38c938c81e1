use Rattle.request_write.proofs.Laws.{number_put, number_out}
use Rattle.request_write.proofs.put_number.Goals as goal

pub returns-then-not-fits-clause-puts : goal.returns-then-not-fits-clause-puts
returns-then-not-fits-clause-puts c = search number_out

pub returns-clause-puts : goal.returns-clause-puts
returns-clause-puts c = search number_put
