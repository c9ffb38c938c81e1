use Rattle.tables.proofs.TestLaws.{Both}
use Rattle.tables_rules.specs.entry_rules.EntryRules.{code_of}
use Rattle.tables_rules.specs.whole.TableRules.{bins_from}
use Rattle.model.specs.Rules.{Unlike}
use Rattle.std.proofs.Common.{◌≤◌}
use Rattle.tables_rules.proofs.whole.cross.bin_alone.Given as goal

abbrev pub invariant-loop-place : goal.invariant-loop-place
invariant-loop-place l = (l.place ≤ 32) × Both (Unlike (code_of l.high l.low) (bins_from l.batches l.from)) (Unlike (code_of l.high l.low) (bins_from l.batches l.place))
