use mathlib.Core.Path.{refl}
use native.Mathlib.Omega.{arith}
use Rattle.codes.specs.Codes.{long_text}
use Rattle.text_names.proofs.rules.Laws.{begin_end, begin_not, begin_on}
use Rattle.text_names.proofs.rules.begins_with.Goals as goal

pub loop-i-init : goal.loop-i-init
unfolding long_text
loop-i-init c = refl

pub returns-then-byte-b : goal.returns-then-byte-b
returns-then-byte-b c = begin_not c.args.word.now c.args.c (omega arith) c.requires.1 c.loop-i.i c.loop-i.invariant (omega arith) c.byte.ensures c.if-byte-b.true

pub loop-i-preserved : goal.loop-i-preserved
loop-i-preserved c = begin_on c.args.word.now c.args.c (omega arith) c.requires.1 c.loop-i.i c.loop-i.invariant (omega arith) c.byte.ensures c.if-byte-b.false

pub returns : goal.returns
returns c = begin_end c.args.word.now c.args.c (omega arith) c.requires.1 c.loop-i.i c.loop-i.invariant (omega arith)
