use Rattle.c_gateway.proofs.WriterLaws.{credit_side, debit_side}
use Rattle.c_gateway.proofs.writers.side.Goals as goal

pub returns-then-value-eq0 : goal.returns-then-value-eq0
returns-then-value-eq0 c = search credit_side

pub returns : goal.returns
returns c = search debit_side
