use Rattle.c_engine.proofs.Banks.{save_start, save_turn, save_end}
use lib.ListN.{length-set}
use Prim.Native.Nat.{◌-◌}
use native.Mathlib.Omega.{arith}
use borrow.Author.Rules.{rules}
use Rattle.c_engine.proofs.save.Goals as goal

pub loop-i-init : goal.loop-i-init
loop-i-init c = search (rules, save_start)

pub bounds-banks-bank-in-loop-i : goal.bounds-banks-bank-in-loop-i
bounds-banks-bank-in-loop-i c = simp length-set (omega arith)

pub bounds-banks-bank-in-loop-i-2 : goal.bounds-banks-bank-in-loop-i-2
bounds-banks-bank-in-loop-i-2 c = simp length-set (omega arith)

pub bounds-banks-bank-in-loop-i-3 : goal.bounds-banks-bank-in-loop-i-3
bounds-banks-bank-in-loop-i-3 c = simp length-set (omega arith)

pub bounds-banks-bank-in-loop-i-4 : goal.bounds-banks-bank-in-loop-i-4
bounds-banks-bank-in-loop-i-4 c = simp length-set (omega arith)

pub loop-i-preserved : goal.loop-i-preserved
loop-i-preserved c = search (rules, save_turn)

pub returns : goal.returns
returns c = search (rules, save_end)
