use Rattle.call_day.proofs.Laws.{open_refused, open_early, open_done}
use borrow.Author.Rules.{rules}
use Rattle.call_day.proofs.open_day.Goals as goal

-- src/lib.rt:105:17
pub returns-then-not-is_later : goal.returns-then-not-is_later
returns-then-not-is_later c = search (rules, open_early)

-- src/lib.rt:73:1
pub returns-in-Err : goal.returns-in-Err
returns-in-Err c = search (rules, open_refused)

-- src/lib.rt:73:1
pub returns-else-not-is_later : goal.returns-else-not-is_later
returns-else-not-is_later c = search (rules, open_done)
