use native.Mathlib.Omega.{arith}
use Rattle.text_names.proofs.rules.Laws.{bytes_end, bytes_not, bytes_on}
use Rattle.text_names.proofs.rules.are_all.Goals as goal

pub returns-then-not-is : goal.returns-then-not-is
returns-then-not-is g c = λ class tells. bytes_not c.args.c c.args.from c.args.to c.requires.within class c.loop-i.i (c.loop-i.invariant class tells) (omega arith) c.byte.ensures (tells c.byte.result c.is.result (omega arith) c.is.ensures) c.if-not-is.true

pub loop-i-preserved : goal.loop-i-preserved
loop-i-preserved g c = λ class tells. bytes_on c.args.c c.args.from c.args.to c.requires.within class c.loop-i.i (c.loop-i.invariant class tells) (omega arith) c.byte.ensures (tells c.byte.result c.is.result (omega arith) c.is.ensures) c.if-not-is.false

pub returns : goal.returns
returns g c = λ class tells. bytes_end c.args.c c.args.from c.args.to c.requires.within class c.loop-i.i (c.loop-i.invariant class tells) (omega arith)
