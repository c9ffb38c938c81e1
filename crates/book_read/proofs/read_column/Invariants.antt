use Rattle.book_read.specs.Book.{bank_place}
use Rattle.book_read.specs.Accounts.{bank_at, field_of}
use Rattle.book_read.proofs.Filling.{Filling}
use Rattle.book_read.proofs.read_column.Given as goal

abbrev pub invariant-loop-i : goal.invariant-loop-i
invariant-loop-i l = Filling (λ j. field_of l.field (bank_at l.s (bank_place j))) l.n l.initial.out l.out l.i
