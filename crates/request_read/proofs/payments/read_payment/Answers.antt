use Rattle.std.proofs.Common.{arith}
use Rattle.std.proofs.lemmas.Grind.{common_steps}
use Rattle.request_read.specs.payments.Payments.{bank_at, credit_at, debit_at, payment_at, status_at}
use Rattle.request_read.proofs.payments.read_payment.Goals as goal

pub returns-in_err-side : goal.returns-in_err-side
unfolding payment_at credit_at debit_at bank_at status_at
returns-in_err-side c = grind (arith, common_steps)

pub returns-in_err-amount : goal.returns-in_err-amount
unfolding payment_at credit_at debit_at bank_at status_at
returns-in_err-amount c = grind (arith, common_steps)

pub returns-in_err-letters : goal.returns-in_err-letters
unfolding payment_at credit_at debit_at bank_at status_at
returns-in_err-letters c = grind (arith, common_steps)

pub returns-in_err-bank : goal.returns-in_err-bank
unfolding payment_at credit_at debit_at bank_at status_at
returns-in_err-bank c = grind (arith, common_steps)

pub returns : goal.returns
unfolding payment_at credit_at debit_at bank_at status_at
returns c = grind (arith, common_steps)
