use Prim.Native.Nat.{◌<◌}
use mathlib.Core.Path.{sym, ◌∙◌}
use native.Mathlib.Omega.{arith}
use lib.ListN.{length}
use Rattle.codes.specs.Codes.{named, spelled, long_text}
use Rattle.codes.proofs.Laws.{named_at_lem}
use Rattle.text_put.proofs.Laws.{putting_start, putting_on, putting_done}
use Rattle.text_put.proofs.long_code.Goals as goal

pub loop-i-init : goal.loop-i-init
loop-i-init c = putting_start _ _ _

pub loop-i-preserved : goal.loop-i-preserved
unfolding long_text
loop-i-preserved c =
    let code = c.args.code in
    let h : c.loop-i.i < length (named (spelled code)) = omega (arith, c.len-i-end.ensures.value) in
    putting_on c.loop-i.invariant h (c.byte.ensures ∙ sym (named_at_lem (spelled code) c.loop-i.i h)) c.byte-in-loop-i.ensures

pub shape_of-out : goal.shape_of-out
shape_of-out c = c.loop-i.invariant.size

pub returns : goal.returns
returns c = putting_done c.loop-i.invariant (omega arith)
