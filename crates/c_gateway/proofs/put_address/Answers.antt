use Rattle.c_gateway.proofs.Laws.{address_row}
use Rattle.c_gateway.proofs.put_address.Goals as goal

pub returns : goal.returns
returns c = search address_row
