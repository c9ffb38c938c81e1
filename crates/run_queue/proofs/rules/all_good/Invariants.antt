use Prim.Native.Nat.{◌≤◌}
use lib.ListN.{take}
use lib.Seq.{slice}
use Rattle.queue.specs.Rows.{AllGood}
use Rattle.run_queue.proofs.rules.all_good.Given as goal

abbrev pub invariant-loop-i : goal.invariant-loop-i
invariant-loop-i l =
    (AllGood l.batches (slice l.i l.waiting l.queue) → AllGood l.batches (take l.waiting l.queue))
