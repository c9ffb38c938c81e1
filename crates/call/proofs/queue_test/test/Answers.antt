use borrow.Author.Rules.{rules}
use Rattle.call.proofs.queue_test.Laws.{room, tried_fits, passed_room, passed_wrote, test_ended}
use Rattle.call.proofs.queue_test.test.Goals as goal

pub run-reached-requires : goal.run-reached-requires
run-reached-requires c = let p = c.requires.testable.0 in record { books = p.books; all_good = p.good; memory_len = (p.memory, p.queue, room c.args.nq c.args.tries.now p.few p.tries) }

pub answer_settled-told-requires : goal.answer_settled-told-requires
answer_settled-told-requires c = record { legible = (c.requires.testable.1, tried_fits _ _ _ _ _ _ _ _ c.requires.testable.0 _ _ _ _ _ _ c.run-reached.ensures); room = passed_room _ _ _ _ _ _ _ _ c.requires.testable.0 _ _ _ _ _ _ c.run-reached.ensures _ _ _ _ _ c.requires.room }

pub end_passed-requires : goal.end_passed-requires
end_passed-requires c = (c.requires.testable.0.table, tried_fits _ _ _ _ _ _ _ _ c.requires.testable.0 _ _ _ _ _ _ c.run-reached.ensures)

pub returns : goal.returns
returns c = record { ended = test_ended _ _ _ _ _ _ _ _ c.requires.testable.0 _ _ _ _ _ _ c.run-reached.ensures _ _ (search rules) c.end_passed.ensures; wrote = passed_wrote _ _ _ _ _ _ _ _ c.requires.testable.0 _ _ _ _ _ _ c.run-reached.ensures _ _ _ _ _ _ _ _ c.answer_settled-told.ensures }
