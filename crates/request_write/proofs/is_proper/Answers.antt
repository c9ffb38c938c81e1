use native.Mathlib.Omega.{arith}
use mathlib.Core.Path.{refl, sym, ◌∙◌}
use Rattle.codes.proofs.Laws.{spelled_length}
use Rattle.request_write.proofs.Laws.{proper_on, proper_stop, proper_end}
use Rattle.request_write.proofs.is_proper.Goals as goal

pub loop-i-init : goal.loop-i-init
loop-i-init c = refl

pub returns-then-not-is_code : goal.returns-then-not-is_code
returns-then-not-is_code c =
    c.is_blank.ensures ∙ proper_stop _ c.loop-i.i (rw spelled_length (omega arith)) c.byte.ensures c.is_code.ensures c.if-not-is_code.true ∙ c.loop-i.invariant

pub loop-i-preserved : goal.loop-i-preserved
loop-i-preserved c = sym (proper_on _ c.loop-i.i (rw spelled_length (omega arith)) c.byte.ensures c.is_code.ensures c.if-not-is_code.false) ∙ c.loop-i.invariant

pub returns : goal.returns
returns c = proper_end _ c.loop-i.i (rw spelled_length (omega arith)) ∙ c.loop-i.invariant
