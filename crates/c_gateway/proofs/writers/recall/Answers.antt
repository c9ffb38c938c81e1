use Rattle.c_gateway.proofs.WriterLaws.{recall_made}
use Rattle.c_gateway.proofs.writers.recall.Goals as goal

pub returns : goal.returns
returns c = search recall_made
