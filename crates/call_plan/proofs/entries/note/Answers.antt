use Prim.Native.Nat.{◌*◌}
use native.Mathlib.Omega.{arith}
use lib.ListN.{length-set}
use Rattle.call_plan.proofs.entries.Laws.{stored_three}
use Rattle.call_plan.proofs.entries.note.Goals as goal

-- src/lib.rt:101:5
pub bounds-entries-a-2 : goal.bounds-entries-a-2
bounds-entries-a-2 c = simp length-set (omega arith)

-- src/lib.rt:102:5
pub bounds-entries-a-3 : goal.bounds-entries-a-3
bounds-entries-a-3 c = simp length-set (omega arith)

-- src/lib.rt:95:1
pub returns : goal.returns
returns c = stored_three c.args.entries.now (c.args.place * 3) c.args.code.high c.args.code.low c.args.today
