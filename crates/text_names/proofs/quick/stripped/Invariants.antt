use Prim.Native.Nat.{◌-◌}
use Rattle.codes.specs.Codes.{unpacked}
use Rattle.text_names.specs.quick.Ends.{Ends}
use Rattle.text_names.proofs.quick.stripped.Given as goal

abbrev pub invariant-loop-width : goal.invariant-loop-width
invariant-loop-width l = Ends (unpacked 8 l.v) (l.width - 1) l.value
