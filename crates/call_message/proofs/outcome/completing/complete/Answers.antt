use Rattle.call_message.proofs.outcome.CompleteLaws.{lent_long, lent_payments, lent_money, not_complete, uneven, tails}
use Rattle.call_message.proofs.outcome.completing.complete.Goals as goal

-- src/completing.rt:36:9
pub returns-then-batches-a : goal.returns-then-batches-a
returns-then-batches-a c = λ s g k e. not_complete _ _ _ _ _ _ _ _ c.requires s g k _ _ c.if-batches-a.true c.wake_batch.ensures

-- src/completing.rt:44:9
pub even-requires : goal.even-requires
even-requires c = record { row_len = (lent_long _ _ _ _ _ _ _ _ c.requires, lent_payments _ _ _ _ _ _ _ _ c.requires); each = lent_money _ _ _ _ _ _ _ _ c.requires }

-- src/completing.rt:45:9
pub returns-then-not-even : goal.returns-then-not-even
returns-then-not-even c = λ s g k e. uneven _ _ _ _ _ _ _ _ c.requires s g k c.if-batches-a.false c.even.result c.even.ensures _ _ _ _ _ _ _ _ _ _ _ c.if-not-even.true-raw c.end_with.ensures

-- src/completing.rt:17:1
pub returns : goal.returns
returns c = λ s g k e. tails _ _ _ _ _ _ _ _ c.requires s g k c.if-batches-a.false c.even.result c.even.ensures _ e _ _ _ _ _ _ c.if-not-even.false-raw c.to_tail-tail.ensures c.wake_batch-2.ensures
