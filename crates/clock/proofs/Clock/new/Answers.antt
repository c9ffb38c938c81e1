use Rattle.clock.proofs.Laws.{clock_there, clock_never}
use Rattle.clock.proofs.Clock.new.Goals as goal

pub returns-then-seconds-lt-DAY : goal.returns-then-seconds-lt-DAY
returns-then-seconds-lt-DAY c = search clock_there

pub returns-else-seconds-lt-DAY : goal.returns-else-seconds-lt-DAY
returns-else-seconds-lt-DAY c = search clock_never
