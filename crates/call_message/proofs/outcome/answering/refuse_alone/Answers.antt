use Rattle.call_message.proofs.outcome.AnswerLaws.{alone_room, stays_alone}
use borrow.Author.Rules.{rules}
use Rattle.call_message.proofs.outcome.answering.refuse_alone.Goals as goal

-- src/answering.rt:64:9
pub answer_alone-told-requires : goal.answer_alone-told-requires
answer_alone-told-requires c = search (rules, alone_room)

-- src/answering.rt:55:1
pub returns : goal.returns
returns c = search (rules, stays_alone)
