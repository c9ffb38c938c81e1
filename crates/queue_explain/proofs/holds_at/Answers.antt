use Rattle.queue_explain.proofs.Laws.{at_P, at_A, at_D}
use Rattle.queue_explain.proofs.holds_at.Goals as goal

pub returns-in-80 : goal.returns-in-80
returns-in-80 c = search at_P

pub returns-in-32 : goal.returns-in-32
returns-in-32 c = search at_A

pub returns-in_default : goal.returns-in_default
returns-in_default c = search at_D
