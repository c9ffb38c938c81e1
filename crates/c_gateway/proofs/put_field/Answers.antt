use Prim.Native.Nat.{◌-◌}
use lib.ListN.{length-set}
use native.Mathlib.Omega.{arith}
use Rattle.c_gateway.proofs.Laws.{four}
use Rattle.c_gateway.proofs.put_field.Goals as goal

pub bounds-row-at-2 : goal.bounds-row-at-2
bounds-row-at-2 c = simp length-set (omega arith)

pub bounds-row-at-3 : goal.bounds-row-at-3
bounds-row-at-3 c = simp length-set (omega arith)

pub bounds-row-at-4 : goal.bounds-row-at-4
bounds-row-at-4 c = simp length-set (omega arith)

pub returns : goal.returns
returns c =
    let a = c.args in
    rw c.part_length.ensures (four a.row.now a.at a.p.start (a.p.end - a.p.start) a.value a.second)
