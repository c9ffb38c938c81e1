use borrow.Author.Rules.{rules}
use Rattle.call_plan.proofs.rules.WordLaws.{put_message}
use Rattle.call_plan.proofs.rules.words.put_message.Goals as goal

-- src/words.rt:53:1
pub returns : goal.returns
returns c = search (rules, put_message)
