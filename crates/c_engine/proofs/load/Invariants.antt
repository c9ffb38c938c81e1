use Rattle.c_engine.proofs.Banks.{Loading}
use Rattle.c_engine.proofs.load.Given as goal

abbrev pub invariant-loop-i : goal.invariant-loop-i
invariant-loop-i l = Loading l.banks l.i l.codes l.flags l.balances l.sublimits l.sheet
