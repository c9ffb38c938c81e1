use Prim.Native.Nat.{◌-◌}
use Rattle.call_records.proofs.Rows.{Saved}
use Rattle.call_records.proofs.save.Given as goal

abbrev pub invariant-loop-i : goal.invariant-loop-i
invariant-loop-i l = Saved l.row l.codes l.flags l.balances l.sublimits l.sheet l.i
