use native.Mathlib.Omega.{arith}
use Rattle.codes.specs.Codes.{short_text}
use Rattle.codes.proofs.Laws.{unpack_length}
use Rattle.text_put.proofs.Laws.{putting_start, putting_on, putting_done}
use Rattle.text_put.proofs.short_code.Goals as goal

pub loop-i-init : goal.loop-i-init
loop-i-init c = putting_start _ _ _

pub loop-i-preserved : goal.loop-i-preserved
unfolding short_text
loop-i-preserved c = putting_on c.loop-i.invariant (rw unpack_length (omega arith)) c.short_byte.ensures c.byte.ensures

pub shape_of-out : goal.shape_of-out
shape_of-out c = c.loop-i.invariant.size

pub returns : goal.returns
unfolding short_text
returns c = putting_done c.loop-i.invariant (rw unpack_length (omega arith))
