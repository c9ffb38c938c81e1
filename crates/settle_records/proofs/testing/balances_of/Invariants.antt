use Rattle.settle_records.proofs.TestingLaws.{Copied}
use Rattle.settle_records.proofs.testing.balances_of.Given as goal

abbrev pub invariant-loop-i : goal.invariant-loop-i
invariant-loop-i l = Copied l.row l.i l.balances
