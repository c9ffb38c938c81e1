use mathlib.Core.Path.{◌≡◌}
use lib.ListN.{drop}
use Rattle.codes.specs.Codes.{spelled}
use Rattle.request_write.specs.Orders.{proper}
use Rattle.request_write.proofs.is_proper.Given as goal

abbrev pub invariant-loop-i : goal.invariant-loop-i
invariant-loop-i l = proper (drop l.i (spelled l.c)) ≡ proper (spelled l.c)
