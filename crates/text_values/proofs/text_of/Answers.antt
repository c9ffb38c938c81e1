use Rattle.text_values.proofs.Laws.{text_inside, text_none, text_past}
use Rattle.text_values.proofs.text_of.Goals as goal

pub returns-then-end-s : goal.returns-then-end-s
returns-then-end-s c = search text_inside

pub returns-else-end-s : goal.returns-else-end-s
returns-else-end-s c = search text_past

pub returns-then-end-start : goal.returns-then-end-start
returns-then-end-start c = search text_none
