use Rattle.text_names.proofs.quick.Laws.{plain_reference}
use Rattle.text_names.proofs.quick.is_reference.Goals as goal

pub returns : goal.returns
returns c = search plain_reference
