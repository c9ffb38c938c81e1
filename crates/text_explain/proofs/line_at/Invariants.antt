use Prim.Native.Nat.{◌-◌}
use Rattle.text_explain.proofs.Laws.{Going}
use Rattle.text_explain.proofs.line_at.Given as goal

abbrev pub invariant-loop-p : goal.invariant-loop-p
invariant-loop-p l = Going l.s l.initial.p.stage l.at l.p

abbrev pub decreases-loop-p : goal.decreases-loop-p
decreases-loop-p l = l.at - l.p.at
