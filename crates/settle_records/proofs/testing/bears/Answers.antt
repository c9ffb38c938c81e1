use Rattle.settle_records.proofs.TestingLaws.{bears_credit, bears_debit}
use borrow.Author.Rules.{rules}
use Rattle.settle_records.proofs.testing.bears.Goals as goal

pub returns-then-letters-eq0 : goal.returns-then-letters-eq0
returns-then-letters-eq0 c = search (rules, bears_credit)

pub returns-else-letters-eq0 : goal.returns-else-letters-eq0
returns-else-letters-eq0 c = search (rules, bears_debit)
