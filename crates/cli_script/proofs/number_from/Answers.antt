use native.Mathlib.Omega.{arith}
use mathlib.Core.Path.{refl}
use Rattle.cli_script.proofs.Laws.{count_on, count_there, count_none, count_line}
use Rattle.cli_script.proofs.number_from.Goals as goal

pub loop-i-init : goal.loop-i-init
loop-i-init c = record { reached = omega arith; same = refl }

pub returns-then-is_blank : goal.returns-then-is_blank
returns-then-is_blank c = search count_there

pub returns-in_err-v : goal.returns-in_err-v
returns-in_err-v c = rw c.from_residual.ensures (count_none _ _ _ _ c.loop-i.invariant c.loop-i-test.true c.is_blank.ensures c.if-is_blank.false c.with_digit.ensures c.in_err-v.was)

pub loop-i-preserved : goal.loop-i-preserved
loop-i-preserved c = count_on _ _ _ _ c.loop-i.invariant c.loop-i-test.true c.is_blank.ensures c.if-is_blank.false c.with_digit.ensures c.in_ok-v.was

pub returns : goal.returns
returns c = rw c.max.ensures (count_line _ _ _ _ c.loop-i.invariant (omega arith) (omega arith))
