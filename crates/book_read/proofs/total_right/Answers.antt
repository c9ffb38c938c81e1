use native.Mathlib.Omega.{arith}
use Rattle.book_read.specs.Book.{total_right}
use Rattle.book_read.proofs.Leaves.{adding_start, adding_over, adding_on, adding_done, balance_is}
use Rattle.book_read.proofs.total_right.Goals as goal

pub loop-i-init : goal.loop-i-init
loop-i-init c = adding_start _ _

pub returns-then-total-balance : goal.returns-then-total-balance
unfolding total_right
returns-then-total-balance c = adding_over c.loop-i.invariant (omega arith) (balance_is _ _ c.bank_place.ensures.value c.money_at-balance.ensures) c.if-total-balance.true

pub overflow_add-total : goal.overflow_add-total
overflow_add-total c = omega (arith, c.loop-i.invariant.small)

pub loop-i-preserved : goal.loop-i-preserved
loop-i-preserved c = adding_on c.loop-i.invariant (omega arith) (balance_is _ _ c.bank_place.ensures.value c.money_at-balance.ensures) (omega arith)

pub returns : goal.returns
unfolding total_right
returns c = adding_done c.loop-i.invariant (omega arith)
