use mathlib.Core.Path.{◌≡◌}
use lib.ListN.{drop}
use Rattle.codes.specs.Codes.{named, spelled, long_text}
use Rattle.text_scan.specs.Scan.{begins}
use Rattle.text_names.proofs.rules.begins_with.Given as goal

abbrev pub invariant-loop-i : goal.invariant-loop-i
invariant-loop-i l = begins (drop l.i l.word) (named (drop l.i (spelled l.c))) ≡ begins l.word (long_text l.c)
