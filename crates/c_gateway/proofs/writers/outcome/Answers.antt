use Rattle.c_gateway.proofs.WriterLaws.{settled_outcome, rejected_outcome}
use Rattle.c_gateway.proofs.writers.outcome.Goals as goal

pub returns-then-value-eq0 : goal.returns-then-value-eq0
returns-then-value-eq0 c = search settled_outcome

pub returns : goal.returns
returns c = search rejected_outcome
