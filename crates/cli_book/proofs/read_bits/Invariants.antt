use Rattle.cli_book.proofs.Laws.{Gathering}
use Rattle.cli_book.proofs.read_bits.Given as goal

abbrev pub invariant-loop-i : goal.invariant-loop-i
invariant-loop-i l = Gathering l.s l.at l.row l.found l.bit l.i
