use borrow.Author.Rules.{rules}
use Rattle.call_plan.proofs.rules.WordLaws.{put_start, put_on, put_end, take_full}
use Rattle.call_plan.proofs.rules.words.put_lines.Goals as goal

-- src/words.rt:45:5
pub loop-i-init : goal.loop-i-init
loop-i-init c = search (rules, put_start)

-- src/words.rt:45:5
pub loop-i-preserved : goal.loop-i-preserved
loop-i-preserved c = search (rules, put_on)

-- src/words.rt:40:1
pub returns : goal.returns
returns c = search (rules, put_end, take_full)
