use native.Mathlib.Omega.{arith}
use Rattle.cli_request.proofs.SeveralLaws.{looking_first, looking_on, looking_there, looking_over}
use Rattle.cli_request.proofs.several.first_end.Goals as goal

pub loop-at-init : goal.loop-at-init
loop-at-init c = record { reached = omega arith; same = search looking_first }

pub returns-then-ends : goal.returns-then-ends
returns-then-ends c = looking_there c.loop-at.invariant.same (omega arith) c.ends.ensures c.if-ends.true

pub loop-at-preserved : goal.loop-at-preserved
loop-at-preserved c = record { reached = omega arith; same = looking_on c.loop-at.invariant.same (omega arith) c.ends.ensures c.if-ends.false }

pub returns : goal.returns
returns c = looking_over c.loop-at.invariant.same (omega arith) (omega arith)
