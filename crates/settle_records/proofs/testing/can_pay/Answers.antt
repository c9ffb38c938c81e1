use Rattle.settle_records.proofs.TestingLaws.{pay_outside, can_pay}
use borrow.Author.Rules.{rules}
use Rattle.settle_records.proofs.testing.can_pay.Goals as goal

pub returns-then-balances-bank : goal.returns-then-balances-bank
returns-then-balances-bank c = search (rules, pay_outside)

pub returns : goal.returns
returns c = search (rules, can_pay)
