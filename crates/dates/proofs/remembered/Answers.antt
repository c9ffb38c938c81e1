use mathlib.Core.Path.{◌∙◌}
use native.Mathlib.Omega.{arith}
use borrow.Author.Tests.{lt-leb}
use Rattle.dates.proofs.Months.{after, back}
use Rattle.dates.proofs.remembered.Goals as goal

pub returns-then-day-today : goal.returns-then-day-today
returns-then-day-today c = back (omega arith)

pub returns-else-day-today : goal.returns-else-day-today
returns-else-day-today c = lt-leb _ _ (omega arith) ∙ after (omega arith)
