use Rattle.std.proofs.Common.{◌+◌, ◌-◌, ◌*◌, ◌≤◌, length}
use Rattle.settle.specs.Payments.{payments_from}
use Rattle.settle.specs.Rules.{Ranged}
use Rattle.run_queue.proofs.rules.ranged.Given as goal

abbrev pub invariant-loop-i : goal.invariant-loop-i
invariant-loop-i l =
    (l.at + 3 * (l.count - l.i) ≤ length l.batches) × (Ranged (payments_from l.batches l.at (l.count - l.i)) → Ranged (payments_from l.batches l.from l.count))
