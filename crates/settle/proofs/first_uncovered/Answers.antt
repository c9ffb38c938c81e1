use borrow.Author.Rules.{rules}
use Prim.Native.Nat.{◌+◌, ◌*◌}
use Rattle.settle.specs.Payments.{how_many}
use Rattle.settle.proofs.Laws.{left_all, left_next, left_none, ranged_head, ranged_tail, first_stops, first_goes, first_none}
use Rattle.settle.proofs.first_uncovered.Goals as goal

pub loop-i-init : goal.loop-i-init
loop-i-init c =
    let t = c.args.batches.now in
    let k = c.args.place in
    let e = left_all t (k * 349 + 49) (how_many t k) in
    (rw e c.requires.ranged, rw e)

pub uncovered_at-requires : goal.uncovered_at-requires
uncovered_at-requires c =
    let t = c.args.batches.now in
    let k = c.args.place in
    let h = ranged_head _ _ _ _ (left_next t (k * 349 + 49) (how_many t k) c.loop-i.i c.loop-i-test.true) c.loop-i.invariant.0 in
    record { at_in_bounds = search rules; at_in_bounds_2 = search rules; at_in_bounds_3 = search rules }

pub returns-then-uncovered_at : goal.returns-then-uncovered_at
returns-then-uncovered_at c =
    let t = c.args.batches.now in
    let k = c.args.place in
    let next = left_next t (k * 349 + 49) (how_many t k) c.loop-i.i c.loop-i-test.true in
    first_stops _ _ _ _ next _ _ c.loop-i.invariant.1 _ c.uncovered_at.ensures c.if-uncovered_at.true

pub loop-i-preserved : goal.loop-i-preserved
loop-i-preserved c =
    let t = c.args.batches.now in
    let k = c.args.place in
    let next = left_next t (k * 349 + 49) (how_many t k) c.loop-i.i c.loop-i-test.true in
    (ranged_tail _ _ _ _ next c.loop-i.invariant.0, first_goes _ _ _ _ next _ _ c.loop-i.invariant.1 _ c.uncovered_at.ensures c.if-uncovered_at.false)

pub returns : goal.returns
returns c =
    let t = c.args.batches.now in
    let k = c.args.place in
    first_none _ _ _ (left_none t (k * 349 + 49) (how_many t k) c.loop-i.i c.loop-i-test.false) c.loop-i.invariant.1
