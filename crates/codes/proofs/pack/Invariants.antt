use lib.ListN.{take, drop}
use Rattle.codes.proofs.Laws.{Packing}
use Rattle.codes.proofs.pack.Given as goal

abbrev pub invariant-loop-i : goal.invariant-loop-i
invariant-loop-i l = Packing (drop l.from (take l.n (drop l.at l.s))) l.w l.v l.i
