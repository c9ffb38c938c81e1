use lib.ListN.{length-set}
use native.Mathlib.Omega.{arith}
use Rattle.c_gateway.proofs.breaks.put_report.Goals as goal

pub bounds-row-1 : goal.bounds-row-1
bounds-row-1 c = simp length-set (omega arith)

pub bounds-row-2 : goal.bounds-row-2
bounds-row-2 c = simp length-set (omega arith)

pub bounds-row-3 : goal.bounds-row-3
bounds-row-3 c = simp length-set (omega arith)

pub bounds-row-4 : goal.bounds-row-4
bounds-row-4 c = simp length-set (omega arith)
