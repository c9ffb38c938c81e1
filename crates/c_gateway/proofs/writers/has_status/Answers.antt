use Rattle.c_gateway.proofs.WriterLaws.{status_told}
use Rattle.c_gateway.proofs.writers.has_status.Goals as goal

pub returns : goal.returns
returns c = search status_told
