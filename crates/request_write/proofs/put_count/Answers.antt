use Rattle.request_write.proofs.Laws.{count_put, count_out}
use Rattle.request_write.proofs.put_count.Goals as goal

pub returns-then-n-lt100-clause-puts : goal.returns-then-n-lt100-clause-puts
returns-then-n-lt100-clause-puts c = search count_put

pub returns-clause-puts : goal.returns-clause-puts
returns-clause-puts c = search count_out
