use Rattle.request_write.proofs.Laws.{amount_put, amount_out}
use Rattle.request_write.proofs.put_cents.Goals as goal

pub returns-then-c-lt1000000000000-clause-puts : goal.returns-then-c-lt1000000000000-clause-puts
returns-then-c-lt1000000000000-clause-puts c = amount_put _ _ _ c.if-c-lt1000000000000.true c.width-w.ensures.value c.bytes.ensures c.digits.ensures c.bytes-then-c-lt1000000000000.ensures c.digits-then-c-lt1000000000000.ensures

pub returns-clause-puts : goal.returns-clause-puts
returns-clause-puts c = search amount_out
