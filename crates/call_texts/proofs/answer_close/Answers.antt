use borrow.Author.Rules.{rules}
use Rattle.call_texts.proofs.Loops.{closing_start, closing_room, closing_turn, closing_done}
use Rattle.call_texts.proofs.answer_close.Goals as goal

pub loop-i-init : goal.loop-i-init
loop-i-init c = (search rules, search (rules, closing_start))

pub answer_batch-reached-requires : goal.answer_batch-reached-requires
answer_batch-reached-requires c = record { legible = search rules; room = search (rules, closing_room) }

pub loop-i-preserved : goal.loop-i-preserved
loop-i-preserved c = (search rules, search (rules, closing_turn))

pub returns : goal.returns
returns c = search (rules, closing_done)
