use Rattle.std.proofs.Common.{◌≡◌, length}
use Rattle.settle.specs.Payments.{row_payments}
use Rattle.settle.specs.Rules.{Ranged}
use Rattle.settle.proofs.Laws.{left_from}
use Rattle.queue.specs.Memory.{marked}
use Rattle.queue.proofs.mark_credited.Given as goal

abbrev pub invariant-loop-i : goal.invariant-loop-i
invariant-loop-i l =
    let rest = left_from l.batches l.first l.n l.i in
    (length l.marks ≡ length l.initial.marks) × Ranged rest × (marked (row_payments l.batches l.place) l.initial.marks ≡ marked rest l.marks)
