use Rattle.call_message.proofs.outcome.AnswerLaws.{kept_room, stays_kept}
use borrow.Author.Rules.{rules}
use Rattle.call_message.proofs.outcome.answering.recall_none.Goals as goal

-- src/answering.rt:81:9
pub answer_recall-told-requires : goal.answer_recall-told-requires
answer_recall-told-requires c = search (rules, kept_room)

-- src/answering.rt:75:1
pub returns : goal.returns
returns c = search (rules, stays_kept)
