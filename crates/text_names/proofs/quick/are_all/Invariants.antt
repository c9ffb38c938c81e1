use Prim.Native.Nat.{ℕ}
use mathlib.Core.Bool.{Bool}
use mathlib.Core.Path.{◌≡◌}
use Rattle.codes.specs.Codes.{unpacked}
use Rattle.text_names.specs.rules.Names.{all_are, Tells}
use Rattle.text_names.proofs.quick.are_all.Given as goal

abbrev pub invariant-loop-left : goal.invariant-loop-left
invariant-loop-left g l = (class : ℕ → Bool) → Tells (goal.F-post g l.is) class → all_are class (unpacked l._left l.rest) ≡ all_are class (unpacked l.w l.v)
