use Rattle.queue_explain.proofs.Laws.{word_past}
use Rattle.queue_explain.proofs.word.Goals as goal

pub returns-else-i-row : goal.returns-else-i-row
returns-else-i-row c = search word_past
