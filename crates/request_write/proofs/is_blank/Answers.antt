use mathlib.Core.Path.{refl, sym, ◌∙◌}
use native.Mathlib.Omega.{arith}
use Rattle.codes.proofs.Laws.{spelled_length}
use Rattle.request_write.proofs.Laws.{blank_on, blank_stop, blank_end}
use Rattle.request_write.proofs.is_blank.Goals as goal

pub loop-i-init : goal.loop-i-init
loop-i-init c = refl

pub returns-then-byte-ne0 : goal.returns-then-byte-ne0
returns-then-byte-ne0 c = blank_stop _ c.loop-i.i (rw spelled_length (omega arith)) c.byte.ensures c.if-byte-ne0.true ∙ c.loop-i.invariant

pub loop-i-preserved : goal.loop-i-preserved
loop-i-preserved c = sym (blank_on _ c.loop-i.i (rw spelled_length (omega arith)) c.byte.ensures c.if-byte-ne0.false) ∙ c.loop-i.invariant

pub returns : goal.returns
returns c = blank_end _ c.loop-i.i (rw spelled_length (omega arith)) ∙ c.loop-i.invariant
