use Rattle.c_gateway.proofs.WriterLaws.{recalled_answer, kept_answer}
use Rattle.c_gateway.proofs.writers.answer.Goals as goal

pub returns-then-value-eq0 : goal.returns-then-value-eq0
returns-then-value-eq0 c = search recalled_answer

pub returns : goal.returns
returns c = search kept_answer
