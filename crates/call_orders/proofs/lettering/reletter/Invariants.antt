use Rattle.call_orders.specs.Lettering.{reletter_from}
use lib.ListN.{length}
use Prim.Native.Nat.{◌+◌, ◌*◌, ◌-◌}
use mathlib.Core.Path.{◌≡◌}
use Rattle.call_orders.proofs.lettering.reletter.Given as goal

abbrev pub invariant-loop-i : goal.invariant-loop-i
invariant-loop-i l =
    (length l.row ≡ length l.initial.row) × (reletter_from l.bank l.letter l.initial.row 49 l.n ≡ reletter_from l.bank l.letter l.row (49 + 3 * l.i) (l.n - l.i))
