use Prim.Native.Nat.{◌+◌, ◌*◌, ◌-◌, ◌≤◌}
use Rattle.book_read.specs.Book.{each}
use Rattle.book_write.specs.Closing.{joined, stream_bytes, stream_of}
use Rattle.book_write.proofs.Storing.{Storing}
use Rattle.book_write.proofs.put_streams.Given as goal

abbrev pub invariant-loop-i : goal.invariant-loop-i
invariant-loop-i l = (l.i ≤ l.n) × Storing l.initial.out 16 (joined stream_bytes (each (stream_of l.row) 0 l.n)) l.out (16 + 8 * l.i) (joined stream_bytes (each (stream_of l.row) l.i (l.n - l.i)))
