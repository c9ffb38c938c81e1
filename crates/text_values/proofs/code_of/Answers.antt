use Rattle.text_values.proofs.Laws.{code_is}
use Rattle.text_values.proofs.code_of.Goals as goal

pub returns : goal.returns
returns c = search code_is
