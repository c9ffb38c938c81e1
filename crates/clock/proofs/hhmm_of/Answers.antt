use Rattle.clock.proofs.Laws.{hhmm_in, hhmm_out}
use Rattle.clock.proofs.hhmm_of.Goals as goal

pub returns-then-minute-lt1440 : goal.returns-then-minute-lt1440
returns-then-minute-lt1440 c = search hhmm_in

pub returns-else-minute-lt1440 : goal.returns-else-minute-lt1440
returns-else-minute-lt1440 c = search hhmm_out
