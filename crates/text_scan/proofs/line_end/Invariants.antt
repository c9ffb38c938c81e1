use Prim.Native.Nat.{◌-◌, ◌≤◌}
use mathlib.Core.Path.{◌≡◌}
use lib.ListN.{drop}
use Rattle.text_scan.specs.Scan.{line_end, line_end_at}
use Rattle.text_scan.proofs.line_end.Given as goal

abbrev pub invariant-loop-j : goal.invariant-loop-j
invariant-loop-j l = record {
  near : l.j - l.at ≤ l.max;
  same : line_end (l.max - (l.j - l.at)) l.j (drop l.j l.s) ≡ line_end_at l.s l.at l.max;
}
