use Rattle.request_write.proofs.Laws.{credit_put, debit_put}
use Rattle.request_write.proofs.put_payment.Goals as goal

pub returns-in-Credit-clause-puts : goal.returns-in-Credit-clause-puts
returns-in-Credit-clause-puts c = search credit_put

pub returns-in-Debit-clause-puts : goal.returns-in-Debit-clause-puts
returns-in-Debit-clause-puts c = search debit_put
