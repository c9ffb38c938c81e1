use Rattle.tables.proofs.TestLaws.{Both}
use Rattle.tables_rules.specs.entry_rules.EntryRules.{code_of, entries_from}
use Rattle.model.specs.Rules.{remembered, Unlike}
use Rattle.std.proofs.Common.{◌≤◌}
use Rattle.tables_rules.proofs.entry_rules.EntryLaws.{codes_from}
use Rattle.tables_rules.proofs.entry_rules.entries.alone.Given as goal

abbrev pub invariant-loop-i : goal.invariant-loop-i
invariant-loop-i l = (l.i ≤ l.n) × Both (Unlike (code_of l.high l.low) (remembered l.today (entries_from l.t l.n l.from))) (Unlike (code_of l.high l.low) (codes_from l.t l.n l.today l.i))
