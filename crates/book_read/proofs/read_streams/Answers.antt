use lib.ListN.{length-set}
use native.Mathlib.Omega.{arith}
use mathlib.Core.Path.{◌∙◌}
use Rattle.book_read.proofs.Filling.{pairing_start, pairing_on, pairing_done}
use Rattle.book_read.proofs.read_streams.Goals as goal

pub loop-i-init : goal.loop-i-init
loop-i-init c = pairing_start _ _ _

pub bounds-out-i : goal.bounds-out-i
bounds-out-i c = omega (arith, c.loop-i.invariant.size)

pub bounds-out-i-in-loop-i : goal.bounds-out-i-in-loop-i
bounds-out-i-in-loop-i c = simp length-set (omega (arith, c.loop-i.invariant.size))

pub loop-i-preserved : goal.loop-i-preserved
loop-i-preserved c = pairing_on c.loop-i.invariant (omega arith) c.short_code.ensures.value (c.from.ensures ∙ c.byte.ensures)

pub shape_of-out : goal.shape_of-out
shape_of-out c = c.loop-i.invariant.size

pub returns : goal.returns
returns c = pairing_done c.loop-i.invariant (omega arith)
