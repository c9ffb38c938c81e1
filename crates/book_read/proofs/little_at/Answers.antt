use native.Mathlib.Omega.{arith}
use mathlib.Core.Path.{◌∙◌}
use Rattle.book_read.proofs.Leaves.{taking_start, taking_fits, taking_on, taking_done}
use Rattle.book_read.proofs.little_at.Goals as goal

pub loop-i-init : goal.loop-i-init
loop-i-init c = taking_start _ _ _

pub overflow_mul-v : goal.overflow_mul-v
overflow_mul-v c = omega (arith, taking_fits c.loop-i.invariant c.requires.1 (omega arith))

pub overflow_add-at : goal.overflow_add-at
overflow_add-at c = omega (arith, c.loop-i.invariant.few)

pub overflow_add-v : goal.overflow_add-v
overflow_add-v c = omega (arith, taking_fits c.loop-i.invariant c.requires.1 (omega arith))

pub loop-i-preserved : goal.loop-i-preserved
loop-i-preserved c = taking_on c.loop-i.invariant (omega arith) (c.from.ensures ∙ c.byte.ensures) (omega (arith, c.from.ensures))

pub returns : goal.returns
returns c = taking_done c.loop-i.invariant (omega arith)
