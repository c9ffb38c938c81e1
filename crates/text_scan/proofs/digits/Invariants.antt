use Prim.Native.Nat.{◌+◌, ◌-◌}
use Rattle.text_scan.specs.Scan.{most}
use Rattle.text_scan.proofs.Laws.{Going}
use Rattle.text_scan.proofs.digits.Given as goal

abbrev pub invariant-loop-i : goal.invariant-loop-i
invariant-loop-i l = Going l.s l.at (most l.max) (most l.max - l.i) (l.at + l.i) l.v
