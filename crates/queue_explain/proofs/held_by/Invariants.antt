use Rattle.std.proofs.Common.{◌≡◌}
use Rattle.settle.specs.Payments.{payments_from, needs_of}
use Rattle.settle.specs.Settlement.{accounts}
use Rattle.settle.proofs.Laws.{left_from}
use Rattle.queue_explain.specs.Holding.{held_by}
use Rattle.queue_explain.proofs.held_by.Given as goal

abbrev pub invariant-loop-i : goal.invariant-loop-i
invariant-loop-i l =
    let a = accounts l.balances l.sublimits in
    held_by a (needs_of (payments_from l.batches l.first l.count)) ≡ held_by a (needs_of (left_from l.batches l.first l.n l.i))
