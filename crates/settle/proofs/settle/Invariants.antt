use Rattle.std.proofs.Common.{◌≡◌, length}
use Rattle.settle.specs.Payments.{row_payments}
use Rattle.settle.specs.Settlement.{settled}
use Rattle.settle.specs.Rules.{AllPayable}
use Rattle.settle.proofs.Laws.{left_from}
use Rattle.settle.proofs.settle.Given as goal

abbrev pub invariant-loop-done : goal.invariant-loop-done
invariant-loop-done l =
    let rest = left_from l.batches l.first l.n l.done in
    (length l.balances ≡ length l.initial.balances) × AllPayable l.balances rest
    × (settled l.initial.balances (row_payments l.batches l.place) ≡ settled l.balances rest)
