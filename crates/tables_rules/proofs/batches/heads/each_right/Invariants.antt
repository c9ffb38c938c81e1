use Rattle.book_read.specs.Range.{Each}
use Rattle.book_read.specs.Book.{each}
use Rattle.tables.proofs.TestLaws.{Both}
use Rattle.std.proofs.Common.{◌≤◌}
use Rattle.tables_rules.specs.batch_rules.BatchRules.{head_at, RightHead}
use Rattle.tables_rules.proofs.batches.HeadLaws.{heads_from}
use Rattle.tables_rules.proofs.batches.heads.each_right.Given as goal

abbrev pub invariant-loop-i : goal.invariant-loop-i
invariant-loop-i l = (l.i ≤ l.n) × Both (Each (RightHead l.count) (each (head_at l.row) 0 l.n)) (Each (RightHead l.count) (heads_from l.row l.n l.i))
