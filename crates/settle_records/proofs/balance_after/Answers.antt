use Rattle.settle_records.proofs.PaymentLaws.{after_credit, after_debit, room_credit, money_debit}
use Rattle.settle_records.proofs.balance_after.Goals as goal

pub overflow_add-result : goal.overflow_add-result
overflow_add-result c = search room_credit

pub overflow_sub-result : goal.overflow_sub-result
overflow_sub-result c = search money_debit

pub returns-then-letters-eq0 : goal.returns-then-letters-eq0
returns-then-letters-eq0 c = search after_credit

pub returns-else-letters-eq0 : goal.returns-else-letters-eq0
returns-else-letters-eq0 c = search after_debit
