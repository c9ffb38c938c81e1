use Prim.Native.Nat.{◌+◌, ◌-◌}
use lib.ListN.{replicate}
use Rattle.book_write.proofs.Storing.{Storing}
use Rattle.book_write.proofs.put_zeros.Given as goal

abbrev pub invariant-loop-i : goal.invariant-loop-i
invariant-loop-i l = Storing l.initial.out l.at (replicate l.n 0) l.out (l.at + l.i) (replicate (l.n - l.i) 0)
