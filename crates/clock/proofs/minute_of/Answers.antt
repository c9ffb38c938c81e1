use native.Mathlib.Omega.{arith}
use Rattle.clock.proofs.Laws.{minute_hour, minute_past, minute_in}
use Rattle.clock.proofs.minute_of.Goals.{then-hour-ge24-via-then-hour-ge24, then-hour-ge24-via-else-hour-ge24+then-minute-ge60}
use Rattle.clock.proofs.minute_of.Goals as goal

pub returns-then-hour-ge24 : goal.returns-then-hour-ge24
returns-then-hour-ge24 c =
    elim c.then-hour-ge24.branch [
      | then-hour-ge24-via-then-hour-ge24 w ↦ minute_hour c.args.hhmm (omega arith)
      | then-hour-ge24-via-else-hour-ge24+then-minute-ge60 w ↦ minute_past c.args.hhmm (omega arith)
    ]

pub returns : goal.returns
returns c = search minute_in
