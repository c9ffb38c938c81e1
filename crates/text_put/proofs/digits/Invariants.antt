use Prim.Native.Nat.{◌≤◌}
use mathlib.Core.Path.{◌≡◌}
use lib.ListN.{length}
use Rattle.text_put.proofs.Laws.{from_last}
use Rattle.text_put.proofs.digits.Given as goal

abbrev pub invariant-loop-i : goal.invariant-loop-i
invariant-loop-i l = (l.i ≤ l.k) × (length l.out ≡ length l.initial.out) × (from_last l.i l.rest l.at l.out ≡ from_last l.k l.v l.at l.initial.out)
