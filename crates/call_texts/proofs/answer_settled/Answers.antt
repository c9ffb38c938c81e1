use borrow.Author.Rules.{rules}
use Rattle.call_texts.proofs.Loops.{settling_start, settling_room, settling_turn, settling_done}
use Rattle.call_texts.proofs.answer_settled.Goals as goal

pub loop-i-init : goal.loop-i-init
loop-i-init c = (search rules, search (rules, settling_start))

pub answer_try-reached-requires : goal.answer_try-reached-requires
answer_try-reached-requires c = record { legible = search rules; room = search (rules, settling_room) }

pub loop-i-preserved : goal.loop-i-preserved
loop-i-preserved c = (search rules, search (rules, settling_turn))

pub returns : goal.returns
returns c = search (rules, settling_done)
