use Rattle.c_gateway.proofs.WriterLaws.{payable_made}
use Rattle.c_gateway.proofs.writers.payable.Goals as goal

pub returns : goal.returns
returns c = search payable_made
