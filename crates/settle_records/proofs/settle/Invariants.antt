use Rattle.settle.proofs.Laws.{left_from}
use Rattle.settle_records.proofs.PaymentLaws.{Settling}
use Rattle.settle_records.proofs.settle.Given as goal

abbrev pub invariant-loop-i : goal.invariant-loop-i
invariant-loop-i l = Settling l.initial.row l.batches l.place (left_from l.batches l.first l.n l.i) l.row
