use borrow.Author.Rules.{rules}
use Prim.Native.Nat.{◌+◌, ◌*◌}
use Rattle.settle.specs.Payments.{how_many}
use Rattle.settle.proofs.Laws.{left_all, left_next, left_none, payable_head, payable_tail, settled_goes, settled_none}
use Rattle.settle.proofs.settle.Goals as goal

pub loop-done-init : goal.loop-done-init
loop-done-init c =
    let t = c.args.batches.now in
    let k = c.args.place in
    let e = left_all t (k * 349 + 49) (how_many t k) in
    (search rules, rw e c.requires.payable, rw e)

pub pay_at-requires : goal.pay_at-requires
pay_at-requires c =
    let t = c.args.batches.now in
    let k = c.args.place in
    let next = left_next t (k * 349 + 49) (how_many t k) c.loop-done.done c.loop-done-test.true in
    record { at_in_bounds = search rules; payable = payable_head _ _ _ _ next _ c.loop-done.invariant.1 }

pub loop-done-preserved : goal.loop-done-preserved
loop-done-preserved c =
    let t = c.args.batches.now in
    let k = c.args.place in
    let next = left_next t (k * 349 + 49) (how_many t k) c.loop-done.done c.loop-done-test.true in
    let inv = c.loop-done.invariant in
    (search rules, payable_tail _ _ _ _ next _ _ c.pay_at.ensures inv.1, settled_goes _ _ _ _ next _ _ c.pay_at.ensures _ inv.2)

pub returns : goal.returns
returns c =
    let t = c.args.batches.now in
    let k = c.args.place in
    settled_none _ _ _ (left_none t (k * 349 + 49) (how_many t k) c.loop-done.done c.loop-done-test.false) c.loop-done.invariant.2
