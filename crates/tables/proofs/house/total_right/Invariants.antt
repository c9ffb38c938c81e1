use Rattle.std.proofs.Common.{◌≤◌, drop}
use Rattle.settle.specs.Rules.{sum}
use Rattle.tables.proofs.TestLaws.{Both}
use Rattle.tables.proofs.house.total_right.Given as goal

abbrev pub invariant-loop-balance : goal.invariant-loop-balance
invariant-loop-balance l = Both (sum l.row ≤ 6400000000000000) (sum (drop l.balance-index l.row) ≤ l.room)
