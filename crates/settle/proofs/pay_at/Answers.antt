use Rattle.settle.proofs.Laws.{payable_inside, payable_scaled, payable_money, payable_room, paid_credit, paid_debit}
use borrow.Author.Rules.{rules}
use Rattle.settle.proofs.pay_at.Goals as goal

pub offset_bounds-balances-bank : goal.offset_bounds-balances-bank
offset_bounds-balances-bank c = search (rules, payable_scaled)

pub bounds-balances-bank : goal.bounds-balances-bank
bounds-balances-bank c = search (rules, payable_inside)

pub overflow_add-balances : goal.overflow_add-balances
overflow_add-balances c = search (rules, payable_room)

pub offset_bounds-balances-bank-then-batches-at-eq0 : goal.offset_bounds-balances-bank-then-batches-at-eq0
offset_bounds-balances-bank-then-batches-at-eq0 c = search (rules, payable_scaled)

pub bounds-balances-bank-then-batches-at-eq0 : goal.bounds-balances-bank-then-batches-at-eq0
bounds-balances-bank-then-batches-at-eq0 c = search (rules, payable_inside)

pub offset_bounds-balances-bank-else-batches-at-eq0 : goal.offset_bounds-balances-bank-else-batches-at-eq0
offset_bounds-balances-bank-else-batches-at-eq0 c = search (rules, payable_scaled)

pub bounds-balances-bank-else-batches-at-eq0 : goal.bounds-balances-bank-else-batches-at-eq0
bounds-balances-bank-else-batches-at-eq0 c = search (rules, payable_inside)

pub overflow_sub-balances : goal.overflow_sub-balances
overflow_sub-balances c = search (rules, payable_money)

pub offset_bounds-balances-bank-else-batches-at-eq0-2 : goal.offset_bounds-balances-bank-else-batches-at-eq0-2
offset_bounds-balances-bank-else-batches-at-eq0-2 c = search (rules, payable_scaled)

pub bounds-balances-bank-else-batches-at-eq0-2 : goal.bounds-balances-bank-else-batches-at-eq0-2
bounds-balances-bank-else-batches-at-eq0-2 c = search (rules, payable_inside)

pub returns-then-batches-at-eq0 : goal.returns-then-batches-at-eq0
returns-then-batches-at-eq0 c = search (rules, paid_credit)

pub returns-else-batches-at-eq0 : goal.returns-else-batches-at-eq0
returns-else-batches-at-eq0 c = search (rules, paid_debit)
