use mathlib.Core.Path.{◌≡◌}
use Prim.Native.Nat.{◌≤◌}
use lib.ListN.{length, take}
use Rattle.model.specs.Joining.{keep}
use Rattle.call_orders.proofs.OrderLaws.{others, packed}
use Rattle.call_orders.proofs.orders.remove.Given as goal

abbrev pub invariant-loop-i : goal.invariant-loop-i
invariant-loop-i l = (l.k ≤ l.i) × (length l.order ≡ length l.initial.order) × (keep (others l.place) (take l.n l.initial.order) ≡ packed (others l.place) l.n l.i l.k l.order)
