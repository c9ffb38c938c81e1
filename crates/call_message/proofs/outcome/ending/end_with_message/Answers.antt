use Rattle.call_message.proofs.outcome.EndLaws.{first_room, last_room, ends_with}
use borrow.Author.Rules.{rules}
use Rattle.call_message.proofs.outcome.ending.end_with_message.Goals as goal

-- src/ending.rt:71:9
pub answer_batch-first-requires : goal.answer_batch-first-requires
answer_batch-first-requires c = record { legible = search rules; room = search (rules, first_room) }

-- src/ending.rt:72:9
pub answer_alone-told-requires : goal.answer_alone-told-requires
answer_alone-told-requires c = search (rules, last_room)

-- src/ending.rt:52:1
pub returns : goal.returns
returns c = (search rules, ends_with _ _ _ _ _ _ c.args.refusal c.number-number.ensures _ _ c.requires.room _ _ _ c.answer_batch-first.ensures _ _ _ _ _ _ _ _ _ _ _ c.answer_alone-told.ensures c.end_batch-left.ensures c.wake_batch.ensures)
