use Rattle.std.proofs.Common.{◌≡◌}
use Rattle.settle.specs.Payments.{row_payments, needs_of}
use Rattle.settle.specs.Settlement.{accounts, first_uncovered}
use Rattle.settle.specs.Rules.{Ranged}
use Rattle.settle.proofs.Laws.{left_from}
use Rattle.settle.proofs.first_uncovered.Given as goal

abbrev pub invariant-loop-i : goal.invariant-loop-i
invariant-loop-i l =
    let rest = left_from l.batches l.first l.n l.i in
    Ranged rest
    × (first_uncovered (accounts l.balances l.sublimits) (needs_of (row_payments l.batches l.place)) ≡ first_uncovered (accounts l.balances l.sublimits) (needs_of rest))
