use native.Mathlib.Omega.{arith}
use Rattle.book_read.proofs.Leaves.{zeros_past}
use Rattle.book_read.proofs.zeros.Goals as goal

pub returns-else-n-s : goal.returns-else-n-s
returns-else-n-s c = zeros_past _ _ _ (omega arith)
