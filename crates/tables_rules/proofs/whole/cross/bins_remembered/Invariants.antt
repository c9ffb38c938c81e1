use Rattle.tables.specs.Rows.{entries_in}
use Rattle.book_read.specs.Range.{Each}
use Rattle.std.proofs.Common.{◌≡◌, ◌≤◌, true}
use Rattle.tables.proofs.TestLaws.{Both}
use Rattle.tables_rules.specs.whole.TableRules.{bins_from, places_of}
use Rattle.model.specs.Rules.{remembered, has, live_bins}
use Rattle.tables_rules.proofs.whole.cross.bins_remembered.Given as goal

abbrev pub invariant-loop-place : goal.invariant-loop-place
invariant-loop-place l = (l.place ≤ 32) × Both (Each (λ c. has c (remembered l.today (entries_in 512 l.bins)) ≡ true) (live_bins (places_of l.batches))) (Each (λ c. has c (remembered l.today (entries_in 512 l.bins)) ≡ true) (bins_from l.batches l.place))
