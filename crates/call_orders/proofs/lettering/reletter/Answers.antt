use borrow.Author.Rules.{rules}
use Rattle.call_orders.proofs.LetterLaws.{reletter_start, reletter_turn, reletter_end}
use lib.ListN.{length-set}
use native.Mathlib.Omega.{arith}
use Rattle.call_orders.proofs.lettering.reletter.Goals as goal

-- src/lettering.rt:25:5
pub loop-i-init : goal.loop-i-init
loop-i-init c = (search rules, search (rules, reletter_start))

-- src/lettering.rt:25:5
pub loop-i-preserved : goal.loop-i-preserved
loop-i-preserved c = (simp length-set (omega arith), search (rules, reletter_turn))

-- src/lettering.rt:19:1
pub returns : goal.returns
returns c = search (rules, reletter_end)
