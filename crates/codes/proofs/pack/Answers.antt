use mathlib.Core.Path.{sym, ◌∙◌}
use native.Mathlib.Nat.{sub-zero}
use native.Mathlib.Omega.{arith}
use lib.ListN.{take, drop}
use lib.Seq.{get_or-drop}
use Rattle.codes.proofs.Laws.{packing_on, packing_done, pow_eight}
use Rattle.codes.proofs.pack.Goals as goal

pub loop-i-init : goal.loop-i-init
loop-i-init c = record { few = omega arith; small = omega arith; same = simp sub-zero }

pub overflow_mul-v : goal.overflow_mul-v
overflow_mul-v c = omega (arith, pow_eight c.loop-i.i c.loop-i.v (omega arith) c.loop-i.invariant.small)

pub overflow_add-v : goal.overflow_add-v
overflow_add-v c =
    let l = c.loop-i in
    omega (arith, pow_eight l.i l.v (omega arith) l.invariant.small)

pub loop-i-preserved : goal.loop-i-preserved
loop-i-preserved c =
    let l = c.loop-i in
    let a = c.args in
    packing_on l.invariant (omega arith) (c.from.ensures ∙ c.byte.ensures ∙ sym (get_or-drop a.from (take a.n (drop a.at a.s.now)) l.i 0)) (omega arith)

pub returns : goal.returns
returns c = record { value = (packing_done c.loop-i.invariant (omega arith)).0; small = (packing_done c.loop-i.invariant (omega arith)).1 }
