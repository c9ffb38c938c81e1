use Rattle.call_message.proofs.outcome.EndLaws.{room_as, ends_so}
use borrow.Author.Rules.{rules}
use Rattle.call_message.proofs.outcome.ending.end_with.Goals as goal

-- src/ending.rt:38:9
pub answer_batch-told-requires : goal.answer_batch-told-requires
answer_batch-told-requires c = record { legible = search rules; room = search (rules, room_as) }

-- src/ending.rt:19:1
pub returns : goal.returns
returns c = (search rules, search (rules, ends_so))
