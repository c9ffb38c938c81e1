use Rattle.c_gateway.proofs.Laws.{Put}
use lib.ListN.{length}
use mathlib.Core.Path.{◌≡◌}
use Rattle.c_gateway.proofs.put_payments.Given as goal

abbrev pub invariant-loop-n : goal.invariant-loop-n
invariant-loop-n l = (length l.places ≡ length l.initial.places) × Put l.text l.initial.at l.places l.n l.at
