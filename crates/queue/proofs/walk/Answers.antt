use borrow.Author.Rules.{rules}
use Rattle.queue.proofs.WalkLaws.{start, head_good, room_here, step, finish}
use Rattle.queue.proofs.walk.Goals as goal

pub loop-i-init : goal.loop-i-init
loop-i-init c = search (rules, start)

pub attempt-step-requires : goal.attempt-step-requires
attempt-step-requires c =
    let inv = c.loop-i.invariant in record { books = inv.books; good = head_good _ _ _ _ _ _ _ _ _ _ _ _ _ _ _ inv c.loop-i-test.true; memory_len = inv.m_long }

pub note-reached-requires : goal.note-reached-requires
note-reached-requires c =
    room_here _ _ _ _ _ _ _ _ _ _ _ _ _ _ _ c.loop-i.invariant c.loop-i-test.true

pub loop-i-preserved : goal.loop-i-preserved
loop-i-preserved c =
    step _ _ _ _ _ _ _ _ _ _ _ _ _ _ _ c.loop-i.invariant c.loop-i-test.true _ _ _ c.attempt-step.ensures _ _ _ _ c.note-reached.ensures

pub returns : goal.returns
returns c = search (rules, finish)
