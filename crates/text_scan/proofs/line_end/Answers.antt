use Prim.Native.Nat.{◌-◌, ◌+◌}
use mathlib.Core.Path.{◌≡◌, sym, ◌∙◌}
use native.Mathlib.Omega.{arith}
use Rattle.text_scan.specs.Scan.{line_end_at}
use Rattle.text_scan.proofs.Laws.{end_here, end_past, end_none, end_step}
use Rattle.text_scan.proofs.line_end.Goals as goal

pub loop-j-init : goal.loop-j-init
unfolding line_end_at
loop-j-init c =
    let a = c.args in
    let z : a.max - (a.at - a.at) ≡ a.max = omega arith in
    record { near = omega arith; same = rw z }

pub returns-in-Some : goal.returns-in-Some
returns-in-Some c = sym (end_here _ _ _ c.lit.ensures c.in-Some.is) ∙ c.loop-j.invariant.same

pub returns-then-j-at : goal.returns-then-j-at
returns-then-j-at c = sym (end_none _ _ c.lit.ensures c.in_default.is (omega arith)) ∙ c.loop-j.invariant.same

pub loop-j-preserved : goal.loop-j-preserved
loop-j-preserved c =
    let a = c.args in
    let j = c.loop-j.j in
    let z : a.max - (j + 1 - a.at) ≡ a.max - (j - a.at) - 1 = omega arith in
    record { near = omega arith; same = rw z (sym (end_step _ _ (a.max - (j - a.at)) (omega arith) c.lit.ensures c.in_default.is (omega arith)) ∙ c.loop-j.invariant.same) }

pub returns : goal.returns
returns c = sym (end_past _ _ _ (omega arith)) ∙ c.loop-j.invariant.same
