use borrow.Author.Rules.{rules}
use Rattle.std.proofs.lemmas.Result.{err_from_is_err_and}
use Rattle.call_plan.proofs.rules.LineLaws.{lines_here, lines_on_lem}
use Rattle.call_plan.proofs.rules.lines.lines_fault.Goals as goal

pub returns-in_err-line_fault : goal.returns-in_err-line_fault
returns-in_err-line_fault c = let p = err_from_is_err_and c.from_residual.result c.from_residual.ensures.1 in rw (p.1, p.2) (search (rules, lines_here, c.in_err-line_fault.was))

pub loop-i-preserved : goal.loop-i-preserved
loop-i-preserved c = search (rules, lines_on_lem, c.in_ok-line_fault.was)
