use Rattle.call_plan.proofs.entries.Laws.{far_start, far_on, far_none, far_some, looked_used, looked_none, looked_free}
use Rattle.tables.proofs.MemoryLaws.{used_start, used_end, used_here, used_on, part_row}
use native.Mathlib.Omega.{arith}
use borrow.Author.Rules.{rules}
use Rattle.call_plan.proofs.entries.look.Goals as goal

pub loop-i-init : goal.loop-i-init
loop-i-init c = (search (rules, used_start), search (rules, far_start))

pub row_holds-requires : goal.row_holds-requires
row_holds-requires c = search (rules, part_row)

pub returns-then-row_holds : goal.returns-then-row_holds
returns-then-row_holds c = search (rules, looked_used, used_here)

pub row_vacant-vacant-requires : goal.row_vacant-vacant-requires
row_vacant-vacant-requires c = search (rules, part_row)

pub loop-i-preserved : goal.loop-i-preserved
loop-i-preserved c = (
  used_on _ _ _ _ _ c.loop-i.invariant.0 c.row_holds.result (omega arith) c.row_holds.ensures c.if-row_holds.false,
  far_on _ _ _ _ _ c.loop-i.invariant.1 c.row_vacant-vacant.result _ (omega arith) c.row_vacant-vacant.ensures c.lowest-found.ensures,
)

pub returns-in-None : goal.returns-in-None
returns-in-None c = search (rules, looked_none, used_end, far_none)

pub returns-in-Some : goal.returns-in-Some
returns-in-Some c = search (rules, looked_free, used_end, far_some)
