use mathlib.Core.Path.{◌≡◌}
use Rattle.call_plan.specs.rules.Steps.{numbered}
use Rattle.call_plan.proofs.rules.MessageLaws.{numbered_from}
use Rattle.call_plan.proofs.rules.messages.has_number.Given as goal

abbrev pub invariant-loop-i : goal.invariant-loop-i
invariant-loop-i l = (numbered l.row l.number 0 l.n ≡ numbered_from l.row l.number l.n l.i)
