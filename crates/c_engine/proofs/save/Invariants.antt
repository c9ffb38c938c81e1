use Rattle.c_engine.proofs.Banks.{Saving}
use Rattle.c_engine.proofs.save.Given as goal

abbrev pub invariant-loop-i : goal.invariant-loop-i
invariant-loop-i l = Saving l.banks l.i l.codes l.flags l.balances l.sublimits l.sheet
