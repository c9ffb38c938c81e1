use Rattle.request_write.proofs.Laws.{settlement_put, recall_put}
use Rattle.request_write.proofs.put_order.Goals as goal

pub returns-then-o-eq131-clause-puts : goal.returns-then-o-eq131-clause-puts
returns-then-o-eq131-clause-puts c = search settlement_put

pub returns-clause-puts : goal.returns-clause-puts
returns-clause-puts c = search recall_put
