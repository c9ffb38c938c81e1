use Rattle.std.proofs.Common.{◌≤◌}
use Rattle.tables_rules.proofs.whole.CrossLaws.{Told}
use Rattle.tables_rules.proofs.whole.cross.live_messages.Given as goal

abbrev pub invariant-loop-place : goal.invariant-loop-place
invariant-loop-place l = (l.place ≤ 32) × Told l.batches l.place l.count
