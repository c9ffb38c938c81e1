use mathlib.Core.Path.{◌≡◌}
use Rattle.dates.specs.Dates.{days_before}
use Rattle.dates.proofs.days_before.Given as goal

abbrev pub invariant-loop-m : goal.invariant-loop-m
invariant-loop-m l = l.days ≡ days_before l.year l.m
