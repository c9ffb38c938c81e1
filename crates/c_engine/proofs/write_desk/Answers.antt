use Rattle.c_engine.proofs.Desks.{desk_written}
use lib.ListN.{length-set}
use native.Mathlib.Omega.{arith}
use borrow.Author.Rules.{rules}
use Rattle.c_engine.proofs.write_desk.Goals as goal

pub bounds-desk-1 : goal.bounds-desk-1
bounds-desk-1 c = simp length-set (omega arith)

pub bounds-desk-2 : goal.bounds-desk-2
bounds-desk-2 c = simp length-set (omega arith)

pub bounds-desk-3 : goal.bounds-desk-3
bounds-desk-3 c = simp length-set (omega arith)

pub bounds-desk-4 : goal.bounds-desk-4
bounds-desk-4 c = simp length-set (omega arith)

pub bounds-desk-5 : goal.bounds-desk-5
bounds-desk-5 c = simp length-set (omega arith)

pub returns : goal.returns
returns c = search (rules, desk_written)
