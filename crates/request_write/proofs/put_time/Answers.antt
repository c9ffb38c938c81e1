use Rattle.request_write.proofs.Laws.{time_put, time_out}
use Rattle.request_write.proofs.put_time.Goals as goal

pub returns-then-m-lt1440-clause-puts : goal.returns-then-m-lt1440-clause-puts
returns-then-m-lt1440-clause-puts c = search time_put

pub returns-clause-puts : goal.returns-clause-puts
returns-clause-puts c = search time_out
