use Rattle.request_write.proofs.Laws.{numbers_put}
use Rattle.request_write.proofs.put_numbers.Goals as goal

pub returns-clause-puts : goal.returns-clause-puts
returns-clause-puts c = numbers_put _ _ c.put_number-a.ensures.puts c.bytes.ensures c.put_number.ensures.puts
