use Rattle.std.proofs.Common.{◌-◌}
use Rattle.settle.specs.Payments.{payments_from}
use Rattle.settle.specs.Rules.{credits, debits}
use Rattle.run_queue.proofs.RuleLaws.{Sums}
use Rattle.run_queue.proofs.rules.even.Given as goal

abbrev pub invariant-loop-i : goal.invariant-loop-i
invariant-loop-i l =
    Sums l.batches (credits (payments_from l.batches l.from l.count)) (debits (payments_from l.batches l.from l.count)) l.at (l.count - l.i) l.brought l.taken
