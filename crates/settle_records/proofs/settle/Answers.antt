use Prim.Native.Nat.{◌+◌, ◌*◌}
use Rattle.settle.specs.Payments.{how_many}
use Rattle.settle.proofs.Laws.{left_all, left_next, left_none}
use Rattle.settle_records.proofs.PaymentLaws.{settle_start, settle_pays, settle_turn, settle_end}
use Rattle.settle_records.proofs.settle.Goals as goal

pub loop-i-init : goal.loop-i-init
loop-i-init c =
    let t = c.args.batches.now in
    let k = c.args.place in
    rw (left_all t (k * 349 + 49) (how_many t k)) (settle_start _ _ _ c.requires)

pub pay-requires : goal.pay-requires
pay-requires c =
    let t = c.args.batches.now in
    let k = c.args.place in
    let next = left_next t (k * 349 + 49) (how_many t k) c.loop-i.i c.loop-i-test.true in
    settle_pays _ _ _ _ _ _ next _ c.loop-i.invariant

pub loop-i-preserved : goal.loop-i-preserved
loop-i-preserved c =
    let t = c.args.batches.now in
    let k = c.args.place in
    let next = left_next t (k * 349 + 49) (how_many t k) c.loop-i.i c.loop-i-test.true in
    settle_turn _ _ _ _ _ _ next _ _ c.loop-i.invariant c.pay.auto.row c.pay.ensures

pub returns : goal.returns
returns c =
    let t = c.args.batches.now in
    let k = c.args.place in
    settle_end _ _ _ _ _ (left_none t (k * 349 + 49) (how_many t k) c.loop-i.i c.loop-i-test.false) c.loop-i.invariant
