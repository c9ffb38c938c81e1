use Prim.Native.Nat.{◌+◌, ◌-◌}
use mathlib.Core.Path.{◌≡◌}
use native.Mathlib.Omega.{arith}
use Rattle.text_scan.proofs.Laws.{codes_here, codes_on, codes_past}
use Rattle.text_scan.proofs.codes.Goals as goal

pub loop-i-init : goal.loop-i-init
loop-i-init c =
    let a = c.args in
    let y : a.at + 0 ≡ a.at = omega arith in
    let z : a.max - 0 ≡ a.max = omega arith in
    rw (y, z)

pub returns-then-not-is_code : goal.returns-then-not-is_code
returns-then-not-is_code c = let a = c.args in codes_here a.s.now a.at a.max c.window-here.ensures c.loop-i.invariant c.loop-i-test.true c.if-not-is_code.ensures

pub loop-i-preserved : goal.loop-i-preserved
loop-i-preserved c = let a = c.args in codes_on a.s.now a.at a.max c.window-here.ensures c.loop-i.invariant c.loop-i-test.true c.if-not-is_code.ensures

pub returns : goal.returns
returns c = let a = c.args in codes_past a.s.now a.at a.max c.window-here.ensures c.loop-i.invariant (omega arith)
