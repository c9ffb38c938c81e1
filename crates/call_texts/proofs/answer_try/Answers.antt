use Rattle.call_texts.proofs.Loops.{try_failed, passed_room, passed_wrote}
use borrow.Author.Rules.{rules}
use Rattle.call_texts.proofs.answer_try.Goals as goal

pub returns-then-tried-ne1 : goal.returns-then-tried-ne1
returns-then-tried-ne1 c = search try_failed

pub answer_batch-requires : goal.answer_batch-requires
answer_batch-requires c = record { legible = search rules; room = search passed_room }

pub returns : goal.returns
returns c = search passed_wrote
