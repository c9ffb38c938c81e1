use borrow.Author.Rules.{rules}
use Prim.Native.Nat.{◌+◌, ◌*◌}
use Rattle.settle.specs.Payments.{how_many}
use Rattle.settle.proofs.Laws.{left_all, left_next, left_none, ranged_head, ranged_tail}
use Rattle.queue.proofs.MemoryLaws.{marks_turn, marks_done}
use Rattle.queue.proofs.mark_credited.Goals as goal

pub loop-i-init : goal.loop-i-init
loop-i-init c =
    let t = c.args.batches.now in
    let k = c.args.place in
    let e = left_all t (k * 349 + 49) (how_many t k) in
    (search rules, rw e c.requires.1, rw e)

pub mark_paid-requires : goal.mark_paid-requires
mark_paid-requires c =
    let t = c.args.batches.now in
    let k = c.args.place in
    let h = ranged_head _ _ _ _ (left_next t (k * 349 + 49) (how_many t k) c.loop-i.i c.loop-i-test.true) c.loop-i.invariant.1 in
    (search rules, search rules)

pub loop-i-preserved : goal.loop-i-preserved
loop-i-preserved c =
    let t = c.args.batches.now in
    let k = c.args.place in
    let next = left_next t (k * 349 + 49) (how_many t k) c.loop-i.i c.loop-i-test.true in
    let inv = c.loop-i.invariant in
    (search rules, ranged_tail _ _ _ _ next inv.1, marks_turn _ _ _ _ _ _ inv.2 next _ c.mark_paid.ensures)

pub returns : goal.returns
returns c =
    let t = c.args.batches.now in
    let k = c.args.place in
    marks_done _ _ _ c.loop-i.invariant.2 (left_none t (k * 349 + 49) (how_many t k) c.loop-i.i c.loop-i-test.false)
