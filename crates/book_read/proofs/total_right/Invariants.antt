use Rattle.book_read.specs.Book.{balance_of}
use Rattle.book_read.proofs.Leaves.{Adding}
use Rattle.book_read.proofs.total_right.Given as goal

abbrev pub invariant-loop-i : goal.invariant-loop-i
invariant-loop-i l = Adding (balance_of l.s) l.n l.total l.i
