use Rattle.cli_book.proofs.Laws.{Holding}
use Rattle.cli_book.proofs.read_banks.Given as goal

abbrev pub invariant-loop-n : goal.invariant-loop-n
invariant-loop-n l = Holding l.s l.at l.row l.codes l.flags l.balances l.sublimits l.n l.here
