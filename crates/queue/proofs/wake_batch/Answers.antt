use mathlib.Core.Path.{sym}
use lib.Seq.{set_out}
use Rattle.queue.proofs.wake_batch.Goals as goal

pub returns-else-place-memory : goal.returns-else-place-memory
returns-else-place-memory c = sym (set_out _ _ _ c.if-place-memory.false)
