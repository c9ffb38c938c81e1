use mathlib.Core.Path.{◌≡◌}
use lib.ListN.{length}
use Rattle.call_texts.proofs.Loops.{Closing}
use Rattle.call_texts.proofs.answer_close.Given as goal

abbrev pub invariant-loop-i : goal.invariant-loop-i
invariant-loop-i l =
    (length l.out ≡ length l.initial.out) × Closing l.batches l.today l.bins l.initial.out l.at l.texts l.out l.reached.at l.reached.texts l.i
