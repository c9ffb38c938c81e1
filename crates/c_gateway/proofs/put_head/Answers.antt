use Rattle.c_gateway.proofs.Laws.{head_row}
use Rattle.c_gateway.proofs.put_head.Goals as goal

pub returns : goal.returns
returns c = search head_row
