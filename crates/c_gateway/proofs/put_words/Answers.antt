use Rattle.text_put.proofs.Laws.{putting_start, putting_on, putting_done}
use native.Mathlib.Omega.{arith}
use mathlib.Core.Path.{refl}
use Rattle.c_gateway.proofs.put_words.Goals as goal

pub loop-i-init : goal.loop-i-init
loop-i-init c = putting_start _ _ _

pub loop-i-preserved : goal.loop-i-preserved
loop-i-preserved c = putting_on c.loop-i.invariant (omega arith) refl refl

pub returns : goal.returns
returns c = search putting_done
