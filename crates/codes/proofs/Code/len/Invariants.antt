use Prim.Native.Nat.{◌-◌}
use Rattle.codes.specs.Codes.{spelled}
use Rattle.codes.proofs.Laws.{Naming}
use Rattle.codes.proofs.Code.len.Given as goal

abbrev pub invariant-loop-i : goal.invariant-loop-i
invariant-loop-i l = Naming (spelled l.self) l.i

abbrev pub decreases-loop-i : goal.decreases-loop-i
decreases-loop-i l = 16 - l.i
