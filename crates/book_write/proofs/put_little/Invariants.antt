use Prim.Native.Nat.{◌+◌, ◌-◌}
use Rattle.book_write.specs.Closing.{little_of}
use Rattle.book_write.proofs.Storing.{Storing}
use Rattle.book_write.proofs.put_little.Given as goal

abbrev pub invariant-loop-i : goal.invariant-loop-i
invariant-loop-i l = Storing l.initial.out l.at (little_of l.w l.v) l.out (l.at + l.i) (little_of (l.w - l.i) l.rest)
