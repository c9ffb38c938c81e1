use native.Mathlib.Omega.{arith}
use mathlib.Core.Path.{refl}
use Rattle.cli_request.specs.Account.{line_after}
use Rattle.cli_request.proofs.Laws.{seeking_on, seeking_there, seeking_none}
use Rattle.cli_request.proofs.line_after.Goals as goal

pub loop-i-init : goal.loop-i-init
unfolding line_after
loop-i-init c = record { reached = omega arith; same = refl }

pub returns-then-s-i-eq10 : goal.returns-then-s-i-eq10
returns-then-s-i-eq10 c = search seeking_there

pub loop-i-preserved : goal.loop-i-preserved
loop-i-preserved c = search seeking_on

pub returns : goal.returns
returns c = rw c.max.ensures (seeking_none c.loop-i.invariant (omega arith) (omega arith))
