use mathlib.Core.Path.{refl}
use native.Mathlib.Omega.{arith}
use Rattle.text_put.proofs.Laws.{putting_start, putting_on, putting_done}
use Rattle.text_put.proofs.bytes.Goals as goal

pub loop-i-init : goal.loop-i-init
loop-i-init c = putting_start _ _ _

pub loop-i-preserved : goal.loop-i-preserved
loop-i-preserved c = putting_on c.loop-i.invariant (omega arith) refl c.byte.ensures

pub shape_of-out : goal.shape_of-out
shape_of-out c = c.loop-i.invariant.size

pub returns : goal.returns
returns c = putting_done c.loop-i.invariant (omega arith)
