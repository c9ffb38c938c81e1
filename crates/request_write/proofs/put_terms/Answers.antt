use Rattle.request_write.proofs.Laws.{terms_put}
use Rattle.request_write.proofs.put_terms.Goals as goal

pub returns-clause-puts : goal.returns-clause-puts
returns-clause-puts c = terms_put _ c.put_line-a.ensures.puts c.put_line-b.ensures.puts c.put_activation.ensures.puts
