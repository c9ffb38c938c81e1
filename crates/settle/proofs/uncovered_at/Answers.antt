use Rattle.settle.proofs.Laws.{uncovered_credit, uncovered_debit}
use borrow.Author.Rules.{rules}
use Rattle.settle.proofs.uncovered_at.Goals as goal

pub returns-then-letters-eq0 : goal.returns-then-letters-eq0
returns-then-letters-eq0 c = search (rules, uncovered_credit)

pub returns : goal.returns
returns c = search (rules, uncovered_debit)
