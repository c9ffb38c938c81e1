use native.Mathlib.Omega.{arith}
use Rattle.request_write.proofs.Laws.{paying_start, paying_on, paying_done}
use Rattle.request_write.proofs.put_payments.Goals as goal

pub loop-i-init : goal.loop-i-init
loop-i-init c = paying_start _ _ _ _

pub loop-i-preserved : goal.loop-i-preserved
loop-i-preserved c = paying_on c.loop-i.invariant (omega arith) (omega arith) c.put_payment-a.ensures.puts c.put_payment-a.ensures.small (omega arith)

pub shape_of-out : goal.shape_of-out
shape_of-out c = c.loop-i.invariant.size

pub returns : goal.returns
returns c = let done = paying_done c.loop-i.invariant (omega arith) in record { puts = done.0; small = done.1 }
