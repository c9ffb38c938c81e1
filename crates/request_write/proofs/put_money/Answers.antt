use Rattle.request_write.proofs.Laws.{put_then}
use Rattle.request_write.proofs.put_money.Goals as goal

pub returns-clause-puts : goal.returns-clause-puts
returns-clause-puts c = put_then c.put_line-a.ensures.puts c.put_line.ensures.puts
