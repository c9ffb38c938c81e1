use Rattle.tables_rules.proofs.entry_rules.EntryLaws.{entry_none, entry_late, entry_reference, entry_bin}
use Rattle.tables_rules.proofs.entry_rules.entries.entry_right.Goals as goal

pub returns-then-none : goal.returns-then-none
returns-then-none c = search entry_none

pub returns-then-last-day : goal.returns-then-last-day
returns-then-last-day c = search entry_late

pub returns-then-references : goal.returns-then-references
returns-then-references c = search entry_reference

pub returns : goal.returns
returns c = search entry_bin
