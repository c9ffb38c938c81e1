use native.Mathlib.Omega.{arith}
use Prim.Native.Nat.{◌%◌}
use Rattle.text_names.proofs.quick.Laws.{all_end, all_not, all_on}
use Rattle.text_names.proofs.quick.are_all.Goals as goal

pub returns-then-not-is : goal.returns-then-not-is
returns-then-not-is g c = λ class tells. all_not class c.args.w c.args.v c.loop-left._left c.loop-left.rest (c.loop-left.invariant class tells) (omega arith) (tells (c.loop-left.rest % 256) c.is.result (omega arith) c.is.ensures) c.if-not-is.true

pub loop-left-preserved : goal.loop-left-preserved
loop-left-preserved g c = λ class tells. all_on class c.args.w c.args.v c.loop-left._left c.loop-left.rest (c.loop-left.invariant class tells) (omega arith) (tells (c.loop-left.rest % 256) c.is.result (omega arith) c.is.ensures) c.if-not-is.false

pub returns : goal.returns
returns g c = λ class tells. all_end class c.args.w c.args.v c.loop-left._left c.loop-left.rest (c.loop-left.invariant class tells) (omega arith)
