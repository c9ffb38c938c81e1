use Rattle.std.proofs.Common.{◌≡◌, ◌≤◌, length}
use Rattle.book_read.specs.Book.{each}
use Rattle.tables.proofs.TestLaws.{Both}
use Rattle.tables_rules.specs.batch_rules.BatchRules.{head_at, numbers_of}
use Rattle.tables_rules.specs.payments.Marks.{Below}
use Rattle.tables_rules.proofs.payments.MarkLaws.{Fresh}
use Rattle.tables_rules.proofs.batches.HeadLaws.{heads_from}
use Rattle.tables_rules.proofs.batches.heads.numbers_apart.Given as goal

abbrev pub invariant-loop-i : goal.invariant-loop-i
invariant-loop-i l = (l.i ≤ l.n) × (length l.seen ≡ 11) × Both (Below 11 (numbers_of (each (head_at l.row) 0 l.n))) (Fresh 11 l.seen (numbers_of (heads_from l.row l.n l.i)))
