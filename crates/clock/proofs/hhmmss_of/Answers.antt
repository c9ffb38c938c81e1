use native.Mathlib.Omega.{arith}
use Rattle.clock.proofs.Laws.{clock_is, digits_at_lem, digits_never}
use Rattle.clock.proofs.hhmmss_of.Goals as goal

pub returns-in_default : goal.returns-in_default
returns-in_default c = search digits_never

pub overflow_mul-result : goal.overflow_mul-result
overflow_mul-result c = omega (arith, clock_is _ c.new.ensures c.in-Some.is)

pub overflow_add-result-2 : goal.overflow_add-result-2
overflow_add-result-2 c = omega (arith, clock_is _ c.new.ensures c.in-Some.is)

pub returns : goal.returns
returns c = search digits_at_lem
