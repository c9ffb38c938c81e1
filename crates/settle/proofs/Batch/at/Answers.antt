use borrow.Author.Tests.{lt-ltb, le-ltb}
use Rattle.settle.proofs.Batch.at.Goals as goal

pub returns-then-place-lt-LIVE : goal.returns-then-place-lt-LIVE
returns-then-place-lt-LIVE c = simp (lt-ltb _ _ c.if-place-lt-LIVE.true)

pub returns-else-place-lt-LIVE : goal.returns-else-place-lt-LIVE
returns-else-place-lt-LIVE c = simp (le-ltb _ _ c.if-place-lt-LIVE.false)
