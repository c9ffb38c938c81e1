use Rattle.settle_records.proofs.TestingLaws.{pay_inside, pay_scaled, pay_bears, paid_so}
use borrow.Author.Rules.{rules}
use Rattle.settle_records.proofs.testing.pay.Goals as goal

pub offset_bounds-balances-bank : goal.offset_bounds-balances-bank
offset_bounds-balances-bank c = search (rules, pay_scaled)

pub bounds-balances-bank : goal.bounds-balances-bank
bounds-balances-bank c = search (rules, pay_inside)

pub balance_after-requires : goal.balance_after-requires
balance_after-requires c = search (rules, pay_bears)

pub offset_bounds-balances-bank-2 : goal.offset_bounds-balances-bank-2
offset_bounds-balances-bank-2 c = search (rules, pay_scaled)

pub bounds-balances-bank-2 : goal.bounds-balances-bank-2
bounds-balances-bank-2 c = search (rules, pay_inside)

pub returns : goal.returns
returns c = search (rules, paid_so)
