use native.Mathlib.Omega.{arith}
use Prim.Native.Nat.{◌-◌}
use Rattle.codes.specs.Codes.{unpacked}
use Rattle.text_names.proofs.quick.Laws.{ends_on}
use Rattle.text_names.proofs.quick.stripped.Goals as goal

pub loop-width-preserved : goal.loop-width-preserved
loop-width-preserved c = ends_on (unpacked 8 c.args.v) (c.loop-width.width - 1) c.loop-width.value c.loop-width.invariant (omega arith) (omega arith)
