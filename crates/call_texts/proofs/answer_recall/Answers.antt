use Rattle.call_texts.proofs.Loops.{recall_room, recall_wrote}
use Rattle.call_texts.proofs.answer_recall.Goals as goal

pub put_recall-end-requires : goal.put_recall-end-requires
put_recall-end-requires c = search recall_room

pub returns : goal.returns
returns c = search recall_wrote
