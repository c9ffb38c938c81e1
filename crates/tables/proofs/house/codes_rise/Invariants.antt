use Prim.Native.Nat.{◌-◌, ◌≤◌}
use lib.ListN.{drop}
use Rattle.book_read.specs.Range.{Rising}
use Rattle.tables.proofs.TestLaws.{Both}
use Rattle.tables.proofs.house.codes_rise.Given as goal

abbrev pub invariant-loop-i : goal.invariant-loop-i
invariant-loop-i l = (1 ≤ l.i) × Both (Rising l.row) (Rising (drop (l.i - 1) l.row))
