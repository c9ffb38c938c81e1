use mathlib.Core.Path.{◌≡◌}
use lib.ListN.{length}
use Rattle.run_records.proofs.run.Given as goal

abbrev pub invariant-loop-line : goal.invariant-loop-line
invariant-loop-line l = length l.batches ≡ 11168
