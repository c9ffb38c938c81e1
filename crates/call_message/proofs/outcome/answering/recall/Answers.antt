use Rattle.call_message.proofs.outcome.AnswerLaws.{one_room, others_room, ends_after}
use borrow.Author.Rules.{rules}
use Rattle.call_message.proofs.outcome.answering.recall.Goals as goal

-- src/answering.rt:116:9
pub answer_recall-told-requires : goal.answer_recall-told-requires
answer_recall-told-requires c = search (rules, one_room)

-- src/answering.rt:117:5
pub end_with-requires : goal.end_with-requires
end_with-requires c = record { ready = search rules; room = search (rules, others_room) }

-- src/answering.rt:98:1
pub returns : goal.returns
returns c = ends_after _ _ _ _ c.requires.room _ _ _ c.answer_recall-told.ensures _ _ _ _ _ _ _ _ _ _ _ _ _ _ c.end_with.ensures
