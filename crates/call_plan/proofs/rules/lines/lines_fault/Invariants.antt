use mathlib.Core.Path.{◌≡◌}
use lib.ListN.{length, take, drop}
use Rattle.call_plan.specs.rules.Steps.{lines_on}
use Rattle.call_plan.proofs.rules.lines.lines_fault.Given as goal

abbrev pub invariant-loop-i : goal.invariant-loop-i
invariant-loop-i l = (length l.taken ≡ length l.initial.taken) × (lines_on l.banks.count l.banks.codes.now l.banks.flags.now l.banks.stream l.initial.taken (take l.n l.lines) ≡ lines_on l.banks.count l.banks.codes.now l.banks.flags.now l.banks.stream l.taken (drop l.i (take l.n l.lines)))
