use Rattle.tables.proofs.TestLaws.{Both}
use Rattle.tables_rules.specs.whole.TableRules.{bins_from, places_of}
use Rattle.model.specs.Rules.{AllUnlike, live_bins}
use Rattle.std.proofs.Common.{◌≤◌}
use Rattle.tables_rules.proofs.whole.cross.bins_differ.Given as goal

abbrev pub invariant-loop-place : goal.invariant-loop-place
invariant-loop-place l = (l.place ≤ 32) × Both (AllUnlike (live_bins (places_of l.batches))) (AllUnlike (bins_from l.batches l.place))
