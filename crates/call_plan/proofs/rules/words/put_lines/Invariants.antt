use Rattle.call_plan.proofs.rules.WordLaws.{put_from}
use mathlib.Core.Path.{◌≡◌}
use lib.ListN.{length, take}
use lib.Seq.{sets}
use Rattle.call_plan.specs.rules.Steps.{line_words}
use Rattle.call_plan.proofs.rules.words.put_lines.Given as goal

abbrev pub invariant-loop-i : goal.invariant-loop-i
invariant-loop-i l = (length l.words ≡ length l.initial.words) × (sets l.initial.words 0 (line_words l.banks l.codes (take l.n l.lines)) ≡ put_from l.banks l.codes l.lines l.n l.i l.words)
