use Prim.Native.Nat.{◌+◌, ◌-◌}
use mathlib.Core.Path.{◌≡◌}
use Rattle.text_scan.specs.Scan.{codes_at}
use Rattle.text_scan.proofs.codes.Given as goal

abbrev pub invariant-loop-i : goal.invariant-loop-i
invariant-loop-i l = codes_at l.s (l.at + l.i) (l.max - l.i) ≡ codes_at l.s l.at l.max
