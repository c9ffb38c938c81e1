use Prim.Native.Nat.{ℕ}
use mathlib.Core.Bool.{Bool}
use mathlib.Core.Path.{◌≡◌}
use lib.ListN.{take, drop}
use Rattle.codes.specs.Codes.{spelled}
use Rattle.text_names.specs.rules.Names.{all_are, Tells}
use Rattle.text_names.proofs.rules.are_all.Given as goal

abbrev pub invariant-loop-i : goal.invariant-loop-i
invariant-loop-i g l =
    (class : ℕ → Bool) → Tells (goal.F-post g l.is) class
    → all_are class (drop l.i (take l.to (spelled l.c))) ≡ all_are class (drop l.from (take l.to (spelled l.c)))
