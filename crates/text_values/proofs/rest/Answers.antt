use Rattle.text_values.proofs.Laws.{rest_none, rest_some}
use Rattle.text_values.proofs.rest.Goals as goal

pub returns-then-at-s : goal.returns-then-at-s
returns-then-at-s c = search rest_some

pub returns-else-at-s : goal.returns-else-at-s
returns-else-at-s c = search rest_none
