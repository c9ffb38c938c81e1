use Rattle.tables_rules.specs.entry_rules.EntryRules.{entries_from}
use Rattle.tables.proofs.TestLaws.{Both}
use Rattle.tables.specs.Rows.{entries_in}
use Rattle.std.proofs.Common.{◌≤◌}
use Rattle.tables_rules.proofs.entry_rules.EntryLaws.{AllRight}
use Rattle.tables_rules.proofs.entry_rules.entries.entries_right.Given as goal

abbrev pub invariant-loop-i : goal.invariant-loop-i
invariant-loop-i l = (l.i ≤ l.n) × Both (AllRight l.t l.n l.last l.references (entries_in l.n l.t)) (AllRight l.t l.n l.last l.references (entries_from l.t l.n l.i))
