use native.Mathlib.Omega.{arith}
use Rattle.text_explain.proofs.Laws.{going_stay, going_done}
use Rattle.text_explain.proofs.line_at.Goals as goal

pub returns-in_default : goal.returns-in_default
returns-in_default c = search going_stay

pub returns : goal.returns
returns c = going_done c.loop-p.invariant (omega arith)
