use native.Mathlib.Omega.{arith}
use Rattle.request_read.proofs.payments.Laws.{going_from, going_cut, going_last, going_on, going_full}
use Rattle.request_read.proofs.payments.read_payments.Goals as goal

pub loop-n-init : goal.loop-n-init
loop-n-init c = going_from _ _ c.nothing-items.ensures

pub returns-in-Err : goal.returns-in-Err
returns-in-Err c = search going_cut

pub returns-then-not-more : goal.returns-then-not-more
returns-then-not-more c = search going_last

pub loop-n-preserved : goal.loop-n-preserved
loop-n-preserved c = going_on c.loop-n.invariant (omega arith) c.read_payment.ensures c.in-Ok.is c.more.ensures c.if-not-more.false-raw

pub returns : goal.returns
returns c = search going_full
