use mathlib.Core.Path.{◌≡◌}
use lib.ListN.{drop}
use Rattle.codes.specs.Codes.{spelled}
use Rattle.request_write.specs.Orders.{blank}
use Rattle.request_write.proofs.is_blank.Given as goal

abbrev pub invariant-loop-i : goal.invariant-loop-i
invariant-loop-i l = blank (drop l.i (spelled l.c)) ≡ blank (drop l.from (spelled l.c))
