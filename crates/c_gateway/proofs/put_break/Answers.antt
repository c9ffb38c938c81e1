use lib.ListN.{length-set}
use native.Mathlib.Omega.{arith}
use Rattle.c_gateway.proofs.Laws.{bit_of}
use Rattle.c_gateway.proofs.put_break.Goals as goal

pub bounds-row-1 : goal.bounds-row-1
bounds-row-1 c = simp length-set (omega arith)

pub bounds-row-2 : goal.bounds-row-2
bounds-row-2 c = simp length-set (omega arith)

pub returns : goal.returns
returns c = rw (bit_of c.args.b.missing)
