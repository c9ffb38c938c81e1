use Rattle.std.proofs.Common.{rules, arith, ◌≡◌, ◌+◌, ◌-◌}
use Rattle.run_queue.proofs.RuleLaws.{sums_start, fits_brought, fits_taken, sums_turn, sums_done}
use Rattle.run_queue.proofs.rules.even.Goals as goal

pub loop-i-init : goal.loop-i-init
loop-i-init c = let z : c.args.count - 0 ≡ c.args.count = omega arith in rw z (search (rules, sums_start))

pub overflow_add-brought : goal.overflow_add-brought
overflow_add-brought c = fits_brought _ _ _ _ _ _ _ c.loop-i.invariant (omega arith) _ c.credit_of-brought.ensures

pub overflow_add-taken : goal.overflow_add-taken
overflow_add-taken c = fits_taken _ _ _ _ _ _ _ c.loop-i.invariant (omega arith) _ c.debit_of-taken.ensures

pub loop-i-preserved : goal.loop-i-preserved
loop-i-preserved c =
    let z : c.args.count - (c.loop-i.i + 1) ≡ c.args.count - c.loop-i.i - 1 = omega arith in
    rw z (sums_turn _ _ _ _ _ _ _ c.loop-i.invariant (omega arith) _ _ c.credit_of-brought.ensures c.debit_of-taken.ensures)

pub returns : goal.returns
returns c = λ e. sums_done _ _ _ _ _ _ _ c.loop-i.invariant (omega arith) e
