use Rattle.cli_book.proofs.Laws.{Serving}
use Rattle.cli_book.proofs.read_streams.Given as goal

abbrev pub invariant-loop-n : goal.invariant-loop-n
invariant-loop-n l = Serving l.s l.at l.row l.n l.here
