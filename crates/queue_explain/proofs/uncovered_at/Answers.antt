use Rattle.queue_explain.proofs.Laws.{none_uncovered, some_uncovered}
use Rattle.queue_explain.proofs.uncovered_at.Goals as goal

pub returns-then-letters-eq0 : goal.returns-then-letters-eq0
returns-then-letters-eq0 c = search none_uncovered

pub returns : goal.returns
returns c = search some_uncovered
