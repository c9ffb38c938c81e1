use Rattle.request_write.proofs.Laws.{line_put}
use Rattle.request_write.proofs.put_line.Goals as goal

pub returns-clause-puts : goal.returns-clause-puts
returns-clause-puts c = line_put _ _ c.bytes.ensures c.put_value-e.ensures.puts c.bytes-2.ensures
