use Rattle.c_gateway.proofs.Laws.{put_from_lem, put_long, put_cut, put_last, put_on, put_full}
use native.Mathlib.Omega.{arith}
use mathlib.Core.Path.{refl}
use Rattle.c_gateway.proofs.put_payments.Goals as goal

pub loop-n-init : goal.loop-n-init
loop-n-init c = (refl, search put_from_lem)

pub returns-in-Err : goal.returns-in-Err
returns-in-Err c = put_cut c.loop-n.invariant.1 (omega arith) c.read_payment.ensures c.in-Err.is

pub put_payment-requires : goal.put_payment-requires
put_payment-requires c = omega (arith, put_long c.loop-n.invariant.1)

pub returns-then-not-more : goal.returns-then-not-more
returns-then-not-more c =
    put_last c.loop-n.invariant.1 (omega arith) c.read_payment.ensures c.in-Ok.is c.put_payment.ensures c.more.ensures c.if-not-more.true-raw

pub loop-n-preserved : goal.loop-n-preserved
loop-n-preserved c = (
  omega arith,
  put_on c.loop-n.invariant.1 (omega arith) c.read_payment.ensures c.in-Ok.is c.put_payment.ensures c.more.ensures c.if-not-more.false-raw,
)

pub returns : goal.returns
returns c = put_full c.loop-n.invariant.1 (omega arith)
