use Prim.Native.Nat.{◌≤◌, max}
use lib.ListN.{length}
use Rattle.cli_request.proofs.SeveralLaws.{Looking}
use Rattle.cli_request.proofs.several.first_end.Given as goal

abbrev pub invariant-loop-at : goal.invariant-loop-at
invariant-loop-at l = record { reached : l.at ≤ max l.first (length l.s); same : Looking l.s l.at }
