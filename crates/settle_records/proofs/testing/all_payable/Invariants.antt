use Rattle.std.proofs.Common.{◌≡◌, length}
use Rattle.settle.specs.Payments.{row_payments}
use Rattle.settle.specs.Rules.{AllPayable}
use Rattle.settle.proofs.Laws.{left_from}
use Rattle.tables.proofs.TestLaws.{Both}
use Rattle.settle_records.proofs.testing.all_payable.Given as goal

abbrev pub invariant-loop-i : goal.invariant-loop-i
invariant-loop-i l =
    (length l.balances ≡ length l.initial.balances)
    × Both (AllPayable l.initial.balances (row_payments l.batches l.place)) (AllPayable l.balances (left_from l.batches l.first l.n l.i))
