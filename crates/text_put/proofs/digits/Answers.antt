use mathlib.Core.Path.{refl, sym, ◌∙◌}
use native.Mathlib.Omega.{arith}
use lib.ListN.{length-set}
use Rattle.text_put.proofs.Laws.{from_last_lem, from_down, from_none}
use Rattle.text_put.proofs.digits.Goals as goal

pub loop-i-init : goal.loop-i-init
loop-i-init c = (omega arith, refl, refl)

pub loop-i-preserved : goal.loop-i-preserved
loop-i-preserved c =
    let a = c.args in
    let e = c.byte.ensures in
    (omega arith, rw (e, length-set) c.loop-i.invariant.1, rw e (sym (from_down c.loop-i.i c.loop-i.rest a.at c.loop-i.out (omega arith)) ∙ c.loop-i.invariant.2))

pub shape_of-out : goal.shape_of-out
shape_of-out c = c.loop-i.invariant.1

pub returns : goal.returns
returns c =
    let a = c.args in
    sym (from_none c.loop-i.i c.loop-i.rest a.at c.loop-i.out (omega arith)) ∙ c.loop-i.invariant.2 ∙ from_last_lem a.k a.v a.at a.out.now
