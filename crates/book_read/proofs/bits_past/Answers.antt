use native.Mathlib.Omega.{arith}
use mathlib.Core.Path.{◌∙◌}
use Rattle.book_read.proofs.Leaves.{bits_step, bits_done}
use Rattle.book_read.proofs.bits_past.Goals as goal

pub loop-preserved : goal.loop-preserved
loop-preserved c = bits_step _ _ (omega arith) ∙ c.loop.invariant

pub returns : goal.returns
returns c = bits_done _ _ (omega arith) ∙ c.loop.invariant
