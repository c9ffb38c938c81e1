use Rattle.tables_rules.proofs.whole.WholeLaws.{whole_fresh, whole_open, whole_closed}
use Rattle.tables_rules.proofs.whole.tables_right.Goals as goal

pub returns-in-Fresh : goal.returns-in-Fresh
returns-in-Fresh c = search whole_fresh

pub returns-in-Open : goal.returns-in-Open
returns-in-Open c = search whole_open

pub returns-in-Closed : goal.returns-in-Closed
returns-in-Closed c = search whole_closed
