use Rattle.c_gateway.proofs.WriterLaws.{no_status, recall_writes}
use Rattle.c_gateway.proofs.writers.write_recall.Goals as goal

pub returns-then-not-has_status : goal.returns-then-not-has_status
returns-then-not-has_status c = search no_status

pub returns : goal.returns
returns c = search recall_writes
