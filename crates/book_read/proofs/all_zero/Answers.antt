use native.Mathlib.Omega.{arith}
use mathlib.Core.Path.{refl, ◌∙◌}
use Rattle.book_read.proofs.Leaves.{zeros_on, zeros_done}
use Rattle.book_read.proofs.all_zero.Goals as goal

pub loop-j-preserved : goal.loop-j-preserved
loop-j-preserved c = zeros_on _ _ _ _ (omega arith) (omega arith) refl ∙ c.loop-j.invariant

pub returns : goal.returns
returns c = zeros_done _ _ _ _ (omega arith) ∙ c.loop-j.invariant
