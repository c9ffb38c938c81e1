use borrow.Author.Rules.{rules}
use Prim.Native.Nat.{◌+◌, ◌*◌}
use Rattle.settle.specs.Payments.{how_many}
use Rattle.settle.proofs.Laws.{left_all, left_next, left_none}
use Rattle.tables.proofs.TestLaws.{both_same}
use Rattle.settle_records.proofs.TestingLaws.{pays_now, try_stops, try_goes, try_ends}
use Rattle.settle_records.proofs.testing.all_payable.Goals as goal

pub loop-i-init : goal.loop-i-init
loop-i-init c =
    let t = c.args.batches.now in
    let k = c.args.place in
    (search rules, rw (left_all t (k * 349 + 49) (how_many t k)) (both_same _))

pub returns-then-not-can_pay : goal.returns-then-not-can_pay
returns-then-not-can_pay c =
    let t = c.args.batches.now in
    let k = c.args.place in
    let next = left_next t (k * 349 + 49) (how_many t k) c.loop-i.i c.loop-i-test.true in
    try_stops _ _ _ _ next _ c.loop-i.invariant.1 _ c.can_pay.ensures (search rules)

pub pay-requires : goal.pay-requires
pay-requires c = search (rules, pays_now)

pub loop-i-preserved : goal.loop-i-preserved
loop-i-preserved c =
    let t = c.args.batches.now in
    let k = c.args.place in
    let next = left_next t (k * 349 + 49) (how_many t k) c.loop-i.i c.loop-i-test.true in
    (search rules, try_goes _ _ _ _ next _ c.loop-i.invariant.1 _ _ c.can_pay.ensures (search rules) c.pay.ensures)

pub returns : goal.returns
returns c =
    let t = c.args.batches.now in
    let k = c.args.place in
    try_ends _ _ (left_none t (k * 349 + 49) (how_many t k) c.loop-i.i c.loop-i-test.false) c.loop-i.invariant.1
