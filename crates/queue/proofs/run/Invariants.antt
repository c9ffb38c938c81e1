use lib.ListN.{take}
use Rattle.settle.specs.Payments.{row_payments}
use Rattle.settle.specs.Settlement.{accounts}
use Rattle.queue.specs.Tests.{test, fuel}
use Rattle.queue.proofs.RunLaws.{Inv}
use Rattle.queue.proofs.run.Given as goal

abbrev pub invariant-loop-left : goal.invariant-loop-left
invariant-loop-left l =
    Inv l.quick l.sublimits l.batches l.waiting (test l.quick (row_payments l.batches) (fuel (take l.waiting l.initial.queue)) (accounts l.initial.balances l.sublimits) l.initial.memory (take l.waiting l.initial.queue)) l.initial.queue l.initial.tries l.tried l.balances l.memory l.queue l.tries l.left l.at

abbrev pub decreases-loop-left : goal.decreases-loop-left
decreases-loop-left l = l.left
