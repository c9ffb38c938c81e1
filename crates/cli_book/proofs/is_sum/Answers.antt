use Rattle.cli_book.proofs.Laws.{owing_start, owing_short, owing_on, owing_done}
use native.Mathlib.Omega.{arith}
use borrow.Author.Rules.{rules}
use Rattle.cli_book.proofs.is_sum.Goals as goal

pub loop-balance-init : goal.loop-balance-init
loop-balance-init c = owing_start _ _

pub returns-then-rest-balance : goal.returns-then-rest-balance
returns-then-rest-balance c = owing_short c.loop-balance.invariant (search rules) (omega arith) c.if-rest-balance.true

pub loop-balance-preserved : goal.loop-balance-preserved
loop-balance-preserved c = owing_on c.loop-balance.invariant (search rules) (omega arith) c.if-rest-balance.false

pub returns : goal.returns
returns c = owing_done c.loop-balance.invariant (search rules) (omega arith)
