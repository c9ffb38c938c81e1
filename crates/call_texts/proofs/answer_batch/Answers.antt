use Rattle.call_texts.proofs.Loops.{past_wrote, row_long, row_few, row_room, row_wrote}
use Rattle.call_texts.proofs.answer_batch.Goals as goal

pub returns-then-place-ge-LIVE : goal.returns-then-place-ge-LIVE
returns-then-place-ge-LIVE c = search past_wrote

pub answer_row-requires : goal.answer_row-requires
answer_row-requires c = record { row_len = (search row_long, search row_few); room = search row_room }

pub returns : goal.returns
returns c = search row_wrote
