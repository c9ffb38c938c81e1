use Rattle.request_write.proofs.Laws.{four_put, four_out}
use Rattle.request_write.proofs.put_four.Goals as goal

pub returns-then-v-lt4294967296-clause-puts : goal.returns-then-v-lt4294967296-clause-puts
returns-then-v-lt4294967296-clause-puts c = search four_put

pub returns-clause-puts : goal.returns-clause-puts
returns-clause-puts c = search four_out
