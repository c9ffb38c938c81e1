use native.Mathlib.Omega.{arith}
use Rattle.queue.proofs.MemoryLaws.{map_turn, map_done}
use Rattle.queue.proofs.wake_marked.Goals as goal

pub loop-held-preserved : goal.loop-held-preserved
loop-held-preserved c = map_turn _ _ _ _ c.loop-held.invariant _ (omega arith) c.woken_by.ensures

pub returns : goal.returns
returns c = map_done _ _ _ _ c.loop-held.invariant (omega arith) (omega arith)
