use Rattle.call_orders.proofs.ArriveLaws.{arrived_so}
use lib.ListN.{length-set}
use native.Mathlib.Omega.{arith}
use borrow.Author.Rules.{rules}
use Rattle.call_orders.proofs.arriving.arrive.Goals as goal

-- src/arriving.rt:32:5
pub bounds-row-at-2 : goal.bounds-row-at-2
bounds-row-at-2 c = simp length-set (omega arith)

-- src/arriving.rt:33:5
pub bounds-row-at-3 : goal.bounds-row-at-3
bounds-row-at-3 c = simp length-set (omega arith)

-- src/arriving.rt:34:5
pub bounds-row-at-4 : goal.bounds-row-at-4
bounds-row-at-4 c = simp length-set (omega arith)

-- src/arriving.rt:35:5
pub bounds-row-7-2 : goal.bounds-row-7-2
bounds-row-7-2 c = simp length-set (omega arith)

-- src/arriving.rt:36:5
pub bounds-row-8-2 : goal.bounds-row-8-2
bounds-row-8-2 c = simp length-set (omega arith)

-- src/arriving.rt:22:1
pub returns : goal.returns
returns c = search (rules, arrived_so)
