use Prim.Native.Nat.{◌≤◌}
use Rattle.tables.proofs.TestLaws.{Both}
use Rattle.book_read.specs.Book.{each}
use Rattle.book_write.specs.Closing.{stream_of}
use Rattle.book_read.specs.Range.{Each}
use Rattle.tables.proofs.HouseLaws.{Named, streams_from}
use Rattle.tables.proofs.house.stream_codes_right.Given as goal

abbrev pub invariant-loop-i : goal.invariant-loop-i
invariant-loop-i l = (l.i ≤ l.n) × Both (Each Named (each (stream_of l.row) 0 l.n)) (Each Named (streams_from l.row l.n l.i))
