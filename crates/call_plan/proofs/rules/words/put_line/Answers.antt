use borrow.Author.Rules.{rules}
use native.Mathlib.Omega.{arith}
use lib.ListN.{length-set}
use Rattle.call_plan.proofs.rules.WordLaws.{put_triple}
use Rattle.call_plan.proofs.rules.words.put_line.Goals as goal

-- src/words.rt:36:5
pub bounds-words-at-2 : goal.bounds-words-at-2
bounds-words-at-2 c = simp length-set (omega arith)

-- src/words.rt:37:5
pub bounds-words-at-3 : goal.bounds-words-at-3
bounds-words-at-3 c = simp length-set (omega arith)

-- src/words.rt:27:1
pub returns : goal.returns
returns c = search (rules, put_triple)
