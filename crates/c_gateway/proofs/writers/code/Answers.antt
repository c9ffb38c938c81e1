use Rattle.c_gateway.proofs.WriterLaws.{code_made}
use Rattle.c_gateway.proofs.writers.code.Goals as goal

pub returns : goal.returns
returns c = search code_made
