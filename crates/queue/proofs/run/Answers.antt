use borrow.Author.Rules.{rules}
use native.Mathlib.Omega.{arith}
use Rattle.queue.proofs.RunLaws.{start, room_now, kept_le, ended, turn_on}
use Rattle.queue.proofs.run.Goals as goal

pub loop-left-init : goal.loop-left-init
loop-left-init c = search (rules, start)

pub walk-reached-requires : goal.walk-reached-requires
walk-reached-requires c =
    let inv = c.loop-left.invariant in record { books = inv.books; all_good = inv.good; memory_len = (inv.m_long, inv.left_le, room_now _ _ _ _ _ _ _ _ _ _ _ _ _ _ inv) }

pub returns-then-kept-left : goal.returns-then-kept-left
returns-then-kept-left c =
    ended _ _ _ _ _ _ _ _ _ _ _ _ _ _ c.loop-left.invariant _ _ _ _ _ _ c.walk-reached.ensures c.if-kept-left.true

pub loop-left-smaller : goal.loop-left-smaller
loop-left-smaller c =
    omega (arith, c.if-kept-left.false, kept_le _ _ _ _ _ _ _ _ _ _ _ _ _ _ c.loop-left.invariant _ _ _ _ _ _ c.walk-reached.ensures)

pub loop-left-preserved : goal.loop-left-preserved
loop-left-preserved c =
    turn_on _ _ _ _ _ _ _ _ _ _ _ _ _ _ c.loop-left.invariant _ _ _ _ _ _ c.walk-reached.ensures c.if-kept-left.false
