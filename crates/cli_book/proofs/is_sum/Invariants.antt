use Rattle.cli_book.proofs.Laws.{Owing}
use Rattle.cli_book.proofs.is_sum.Given as goal

abbrev pub invariant-loop-balance : goal.invariant-loop-balance
invariant-loop-balance l = Owing l.balance-items l.total l.rest l.balance-index
