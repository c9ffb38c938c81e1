use Rattle.c_gateway.proofs.WriterLaws.{settlement_made}
use Rattle.c_gateway.proofs.writers.settlement.Goals as goal

pub returns : goal.returns
returns c = search settlement_made
