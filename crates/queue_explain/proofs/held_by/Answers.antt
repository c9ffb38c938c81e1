use Rattle.settle.proofs.Laws.{left_all, left_next, left_none}
use Rattle.queue_explain.proofs.Laws.{held_here, held_on, held_free}
use Rattle.queue_explain.proofs.held_by.Goals as goal

pub loop-i-init : goal.loop-i-init
loop-i-init c = rw (left_all c.args.batches.now c.args.first c.args.count)

pub returns-then-uncovered_at : goal.returns-then-uncovered_at
returns-then-uncovered_at c =
    let next = left_next c.args.batches.now c.args.first c.args.count c.loop-i.i c.loop-i-test.true in
    held_here _ _ _ _ _ next _ c.loop-i.invariant _ c.uncovered_at.ensures c.if-uncovered_at.true c.holds_at.ensures

pub loop-i-preserved : goal.loop-i-preserved
loop-i-preserved c =
    let next = left_next c.args.batches.now c.args.first c.args.count c.loop-i.i c.loop-i-test.true in
    held_on _ _ _ _ _ next _ c.loop-i.invariant _ c.uncovered_at.ensures c.if-uncovered_at.false

pub returns : goal.returns
returns c = held_free _ _ _ (left_none c.args.batches.now c.args.first c.args.count c.loop-i.i c.loop-i-test.false) c.loop-i.invariant
