use Rattle.call_texts.proofs.Loops.{free_wrote, live_few, live_room, live_wrote}
use borrow.Author.Rules.{rules}
use Rattle.call_texts.proofs.answer_row.Goals as goal

pub returns-then-row-eq0 : goal.returns-then-row-eq0
returns-then-row-eq0 c = search free_wrote

pub answer_messages-requires : goal.answer_messages-requires
answer_messages-requires c = record { row_len = (search rules, search live_few); room = search live_room }

pub returns : goal.returns
returns c = search live_wrote
