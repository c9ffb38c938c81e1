use Rattle.request_read.specs.payments.Payments.{payments_at}
use Rattle.request_read.proofs.whole.Laws.{settlement_1}
use Rattle.request_read.specs.terms.Terms.{unstated}
use Rattle.c_gateway.proofs.Laws.{refused_reading, settled_reading, cut_off, uncounted, followed, settles}
use mathlib.Core.Path.{refl, sym, ap}
use Rattle.c_gateway.proofs.put_settling.Goals as goal

pub returns-in-Err : goal.returns-in-Err
returns-in-Err c = refused_reading _ _ (settlement_1 _ _ _ c.read_terms.ensures c.in-Err.is (sym (ap unstated c.in-Err.is)) refl) c.put_refused.ensures

pub returns-in-Err-ending : goal.returns-in-Err-ending
returns-in-Err-ending c = refused_reading _ _ (cut_off _ _ _ c.read_terms.ensures c.in-Ok.is c.put_payments-paying.ensures.0 c.in-Err-ending.is) c.put_refused-in-Err-ending.ensures

pub returns-in-Err-read_count : goal.returns-in-Err-read_count
returns-in-Err-read_count c = refused_reading _ _ (uncounted _ _ _ c.read_terms.ensures c.in-Ok.is c.put_payments-paying.ensures.0 c.in-Ok-ending.is c.read_count.ensures c.in-Err-read_count.is) c.put_refused-in-Err-read_count.ensures

pub returns-then-c-text : goal.returns-then-c-text
returns-then-c-text c = refused_reading _ _ (followed _ _ _ c.read_terms.ensures c.in-Ok.is c.put_payments-paying.ensures.0 c.in-Ok-ending.is c.read_count.ensures c.in-Ok-read_count.is c.if-c-text.true c.absent.ensures) c.put_refused-then-c-text.ensures

pub returns : goal.returns
returns c = settled_reading _ _ _ (payments_at _ _) _ (settles _ _ _ c.read_terms.ensures c.in-Ok.is c.put_payments-paying.ensures.0 c.in-Ok-ending.is c.read_count.ensures c.in-Ok-read_count.is c.if-c-text.false) c.put_payments-paying.ensures.1 c.put_accepted.ensures
