use mathlib.Core.Path.{◌≡◌}
use lib.ListN.{length}
use Rattle.call_texts.proofs.Loops.{Settling}
use Rattle.call_texts.proofs.answer_settled.Given as goal

abbrev pub invariant-loop-i : goal.invariant-loop-i
invariant-loop-i l =
    (length l.out ≡ length l.initial.out) × Settling l.batches l.date l.clock l.tries l.n l.initial.out l.at l.texts l.out l.reached.at l.reached.texts l.i
