use Rattle.std.proofs.Common.{◌≤◌}
use Rattle.tables_rules.proofs.batches.HeadLaws.{Totalled}
use Rattle.tables_rules.proofs.batches.heads.total.Given as goal

abbrev pub invariant-loop-i : goal.invariant-loop-i
invariant-loop-i l = (l.i ≤ l.n) × Totalled l.row l.n l.i l.sum
