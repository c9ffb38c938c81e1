use Rattle.c_gateway.proofs.WriterLaws.{at_once, from_minute}
use Rattle.c_gateway.proofs.writers.activation.Goals as goal

pub returns-then-second-eq0 : goal.returns-then-second-eq0
returns-then-second-eq0 c = search at_once

pub returns : goal.returns
returns c = search from_minute
