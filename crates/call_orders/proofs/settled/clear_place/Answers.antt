use Rattle.call_orders.proofs.EndLaws.{place_gone, no_place}
use native.Mathlib.Omega.{arith}
use borrow.Author.Rules.{rules}
use Rattle.call_orders.proofs.settled.clear_place.Goals as goal

-- src/settled.rt:12:1
pub returns-then-place-lt32 : goal.returns-then-place-lt32
returns-then-place-lt32 c = place_gone _ _ c.requires _ (omega (arith, c.batches-1.given)) c.end_batch.ensures

-- src/settled.rt:12:1
pub returns-else-place-lt32 : goal.returns-else-place-lt32
returns-else-place-lt32 c = (search rules, search (rules, no_place))
