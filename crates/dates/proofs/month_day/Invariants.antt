use mathlib.Core.Path.{◌≡◌}
use lib.ListN.{drop}
use Rattle.dates.specs.Dates.{months, month_day}
use Rattle.dates.proofs.month_day.Given as goal

abbrev pub invariant-loop-month : goal.invariant-loop-month
invariant-loop-month l = month_day l.month (drop l.month (months l.year)) l.place ≡ month_day 0 (months l.year) l.day
