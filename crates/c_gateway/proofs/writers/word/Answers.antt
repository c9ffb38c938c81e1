use Rattle.c_gateway.proofs.WriterLaws.{word_past}
use Rattle.c_gateway.proofs.writers.word.Goals as goal

pub returns-else-at-row : goal.returns-else-at-row
returns-else-at-row c = search word_past
