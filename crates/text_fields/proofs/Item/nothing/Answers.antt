use Rattle.text_fields.proofs.Laws.{nothing_is}
use Rattle.text_fields.proofs.Item.nothing.Goals as goal

pub returns : goal.returns
returns c = search nothing_is
