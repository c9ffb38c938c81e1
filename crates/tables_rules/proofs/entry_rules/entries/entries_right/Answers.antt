use Rattle.std.proofs.Common.{rules}
use Rattle.tables_rules.proofs.entry_rules.EntryLaws.{right_start, right_end, right_not, right_on}
use Rattle.tables_rules.proofs.entry_rules.entries.entries_right.Goals as goal

pub loop-i-init : goal.loop-i-init
loop-i-init c = search (rules, right_start)

pub returns-then-not-entry_right : goal.returns-then-not-entry_right
returns-then-not-entry_right c = search (rules, right_not)

pub loop-i-preserved : goal.loop-i-preserved
loop-i-preserved c = search (rules, right_on)

pub returns : goal.returns
returns c = search (rules, right_end)
