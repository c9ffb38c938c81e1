use Prim.Native.Nat.{◌≤◌, ◌<◌}
use mathlib.Core.Path.{◌≡◌}
use native.Mathlib.Omega.{arith}
use borrow.Author.Rules.{rules}
use lib.ListN.{length, take}
use lib.Seq.{get_or-take, length-take-le}
use Rattle.call_orders.proofs.EndLaws.{ending_start, ending_turn, ending_done}
use Rattle.call_orders.proofs.settled.end_passed.Goals as goal

-- src/settled.rt:40:5
pub loop-tried-init : goal.loop-tried-init
loop-tried-init c = (search rules, search rules, search (rules, ending_start))

-- src/settled.rt:40:5
pub loop-tried-preserved : goal.loop-tried-preserved
loop-tried-preserved c =
    let k : c.args.n ≤ length c.args.tries.now = omega arith in
    let l : length (take c.args.n c.args.tries.now) ≡ c.args.n = length-take-le c.args.n c.args.tries.now k in
    let h : c.loop-tried.tried-index < c.args.n = omega arith in
    let e = rw (get_or-take c.args.n c.args.tries.now c.loop-tried.tried-index 0 h) at c.end_try.ensures in
    (search rules, search rules, ending_turn _ _ _ _ _ _ _ _ _ c.loop-tried.invariant.2 h k e)

-- src/settled.rt:35:1
pub returns : goal.returns
returns c =
    let k : c.args.n ≤ length c.args.tries.now = omega arith in
    let l : length (take c.args.n c.args.tries.now) ≡ c.args.n = length-take-le c.args.n c.args.tries.now k in
    ending_done _ _ _ _ _ _ _ c.loop-tried.invariant.2 (omega arith) k
