use mathlib.Core.Path.{◌≡◌}
use lib.ListN.{length}
use Rattle.call_texts.proofs.Loops.{Telling}
use Rattle.call_texts.proofs.answer_messages.Given as goal

abbrev pub invariant-loop-i : goal.invariant-loop-i
invariant-loop-i l =
    (length l.out ≡ length l.initial.out) × Telling l.row l.n l.bin l.outcome l.initial.out l.at l.texts l.out l.reached.at l.reached.texts l.i
