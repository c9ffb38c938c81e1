use Rattle.cli_request.proofs.RefusalLaws.{finding_start, finding_there, finding_on, finding_done}
use native.Mathlib.Omega.{arith}
use Rattle.cli_request.proofs.refusals.payment_of.Goals as goal

pub loop-k-init : goal.loop-k-init
loop-k-init c = finding_start _ _ _ _ (omega arith)

pub returns-then-line-end : goal.returns-then-line-end
returns-then-line-end c = record { value = (finding_there c.loop-k.invariant (omega arith) (omega arith) c.lines_of-end.ensures.value c.if-line-end.true).0; small = omega arith }

pub loop-k-preserved : goal.loop-k-preserved
loop-k-preserved c = finding_on c.loop-k.invariant (omega arith) (omega arith) c.lines_of-end.ensures.value c.lines_of-end.ensures.small c.if-line-end.false

pub returns : goal.returns
returns c = record { value = finding_done c.loop-k.invariant c.min-most.ensures (omega arith); small = omega arith }
