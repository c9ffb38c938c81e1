use Rattle.call_orders.proofs.ArriveLaws.{begun_so, begun_long}
use lib.ListN.{length-set}
use native.Mathlib.Omega.{arith}
use Rattle.call_orders.proofs.arriving.begin.Goals as goal

-- src/arriving.rt:47:5
pub bounds-row-0 : goal.bounds-row-0
bounds-row-0 c = omega (arith, begun_long _ c.requires)

-- src/arriving.rt:48:5
pub bounds-row-2 : goal.bounds-row-2
bounds-row-2 c = simp length-set (omega (arith, begun_long _ c.requires))

-- src/arriving.rt:49:5
pub bounds-row-3 : goal.bounds-row-3
bounds-row-3 c = simp length-set (omega (arith, begun_long _ c.requires))

-- src/arriving.rt:50:5
pub bounds-row-4 : goal.bounds-row-4
bounds-row-4 c = simp length-set (omega (arith, begun_long _ c.requires))

-- src/arriving.rt:51:5
pub bounds-row-5 : goal.bounds-row-5
bounds-row-5 c = simp length-set (omega (arith, begun_long _ c.requires))

-- src/arriving.rt:43:1
pub returns : goal.returns
returns c = search begun_so
