use borrow.Author.Rules.{rules}
use Rattle.call_texts.proofs.Loops.{telling_start, telling_room, telling_turn, telling_done}
use Rattle.call_texts.proofs.answer_messages.Goals as goal

pub loop-i-init : goal.loop-i-init
loop-i-init c = (search rules, search (rules, telling_start))

pub answer_message-reached-requires : goal.answer_message-reached-requires
answer_message-reached-requires c = search (rules, telling_room)

pub loop-i-preserved : goal.loop-i-preserved
loop-i-preserved c = (search rules, search (rules, telling_turn))

pub returns : goal.returns
returns c = search (rules, telling_done)
