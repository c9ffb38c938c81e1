use native.Mathlib.Omega.{arith}
use Rattle.text_scan.proofs.Laws.{codes_from_lem, code_all, code_not, code_short}
use Rattle.text_scan.proofs.code.Goals as goal

pub returns-then-saturating_sub-n : goal.returns-then-saturating_sub-n
returns-then-saturating_sub-n c = code_short c.args.s.now c.args.at c.args.n (omega (arith, c.saturating_sub.ensures, c.if-saturating_sub-n.true))

pub overflow_sub-end : goal.overflow_sub-end
overflow_sub-end c = codes_from_lem _ _ _ c.codes-end.ensures

pub returns-then-end-at : goal.returns-then-end-at
returns-then-end-at c = code_all _ _ _ c.codes-end.ensures c.if-end-at.true

pub returns-else-end-at : goal.returns-else-end-at
returns-else-end-at c = code_not _ _ _ c.codes-end.ensures c.if-end-at.false
