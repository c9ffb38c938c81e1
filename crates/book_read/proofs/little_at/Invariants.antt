use Rattle.book_read.proofs.Leaves.{Taking}
use Rattle.book_read.proofs.little_at.Given as goal

abbrev pub invariant-loop-i : goal.invariant-loop-i
invariant-loop-i l = Taking l.s l.at l.w l.i l.v
