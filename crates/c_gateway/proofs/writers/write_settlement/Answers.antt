use Rattle.c_gateway.proofs.WriterLaws.{no_status, settlement_writes}
use Rattle.c_gateway.proofs.writers.write_settlement.Goals as goal

pub returns-then-not-has_status : goal.returns-then-not-has_status
returns-then-not-has_status c = search no_status

pub returns : goal.returns
returns c = search settlement_writes
