use Prim.Native.Nat.{◌-◌, ◌≤◌}
use Rattle.tables.proofs.TestLaws.{Both}
use Rattle.book_read.specs.Book.{each}
use Rattle.book_write.specs.Closing.{stream_of}
use Rattle.book_read.specs.Range.{Rising, stream_codes}
use Rattle.tables.proofs.HouseLaws.{StreamsRise}
use Rattle.tables.proofs.house.streams_rise.Given as goal

abbrev pub invariant-loop-i : goal.invariant-loop-i
invariant-loop-i l = (1 ≤ l.i) × Both (Rising (stream_codes (each (stream_of l.row) 0 l.n))) (StreamsRise l.row l.n (l.i - 1))
