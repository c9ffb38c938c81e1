use native.Mathlib.Omega.{arith}
use Rattle.clock.proofs.Laws.{second_hour, second_minute, second_past, second_in_lem}
use Rattle.clock.proofs.second_of.Goals.{then-hour-ge24-via-then-hour-ge24, then-hour-ge24-via-else-hour-ge24+then-minute-ge60, then-hour-ge24-via-else-hour-ge24+else-minute-ge60+then-second-ge60}
use Rattle.clock.proofs.second_of.Goals as goal

pub returns-then-hour-ge24 : goal.returns-then-hour-ge24
returns-then-hour-ge24 c =
    elim c.then-hour-ge24.branch [
      | then-hour-ge24-via-then-hour-ge24 w ↦ second_hour c.args.hhmmss (omega arith)
      | then-hour-ge24-via-else-hour-ge24+then-minute-ge60 w ↦ second_minute c.args.hhmmss (omega arith)
      | then-hour-ge24-via-else-hour-ge24+else-minute-ge60+then-second-ge60 w ↦ second_past c.args.hhmmss (omega arith)
    ]

pub returns : goal.returns
returns c = search second_in_lem
