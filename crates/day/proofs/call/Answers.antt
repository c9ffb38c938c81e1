use native.Mathlib.Omega.{arith}
use mathlib.Core.Path.{sym}
use lib.Seq.{length-take-le}
use Rattle.day.proofs.call.Goals as goal

pub slice_bounds-call-end : goal.slice_bounds-call-end
slice_bounds-call-end c = sym (length-take-le _ _ (omega arith))
