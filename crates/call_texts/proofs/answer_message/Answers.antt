use Rattle.call_texts.proofs.Loops.{message_room, message_wrote}
use Rattle.call_texts.proofs.answer_message.Goals as goal

pub put_settlement-end-requires : goal.put_settlement-end-requires
put_settlement-end-requires c = search message_room

pub returns : goal.returns
returns c = search message_wrote
