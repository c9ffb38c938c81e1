use mathlib.Core.Path.{◌≡◌}
use lib.Dec.{eqb}
use lib.ListN.{take, drop}
use Rattle.model.specs.State.{seek_from, seek}
use Rattle.call_orders.proofs.orders.position.Given as goal

abbrev pub invariant-loop-i : goal.invariant-loop-i
invariant-loop-i l = (seek (eqb l.place) (take l.n l.order) ≡ seek_from (eqb l.place) l.i (drop l.i (take l.n l.order)))
