use Rattle.std.proofs.Common.{◌≤◌}
use Rattle.tables_rules.proofs.entry_rules.EntryLaws.{Noted}
use Rattle.tables_rules.proofs.entry_rules.entries.noted_today.Given as goal

abbrev pub invariant-loop-i : goal.invariant-loop-i
invariant-loop-i l = (l.i ≤ l.n) × Noted l.t l.n l.today l.i l.count
