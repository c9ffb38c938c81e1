use Rattle.request_write.proofs.Laws.{message_put}
use Rattle.request_write.proofs.put_message.Goals as goal

pub returns-clause-puts : goal.returns-clause-puts
returns-clause-puts c = search message_put
