use lib.ListN.{take}
use Rattle.settle.specs.Payments.{row_payments}
use Rattle.settle.specs.Settlement.{accounts}
use Rattle.queue.specs.Tests as tests
use Rattle.queue.proofs.WalkLaws.{Inv}
use Rattle.queue.proofs.walk.Given as goal

abbrev pub invariant-loop-i : goal.invariant-loop-i
invariant-loop-i l =
    Inv l.quick l.sublimits l.batches l.waiting (tests.walk l.quick (row_payments l.batches) (accounts l.initial.balances l.sublimits) l.initial.memory (take l.waiting l.initial.queue)) l.initial.queue l.initial.tries l.tried l.balances l.memory l.queue l.tries l.i l.kept l.at
