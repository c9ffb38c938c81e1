use Rattle.call_orders.proofs.EndLaws.{Ending}
use lib.ListN.{length}
use mathlib.Core.Path.{◌≡◌}
use Rattle.call_orders.proofs.settled.end_passed.Given as goal

abbrev pub invariant-loop-tried : goal.invariant-loop-tried
invariant-loop-tried l = (length l.batches ≡ length l.initial.batches) × (length l.memory ≡ length l.initial.memory) × Ending l.tries l.initial.batches l.initial.memory l.batches l.memory l.n l.tried-index
