use Rattle.clock.proofs.Laws.{begun}
use Rattle.clock.proofs.Clock.has_begun.Goals as goal

pub returns : goal.returns
returns c = search begun
