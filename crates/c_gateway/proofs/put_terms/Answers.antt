use Rattle.c_gateway.proofs.Laws.{terms_row}
use Rattle.c_gateway.proofs.put_terms.Goals as goal

pub returns : goal.returns
returns c = search terms_row
