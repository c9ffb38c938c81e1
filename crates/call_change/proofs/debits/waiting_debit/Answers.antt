use native.Mathlib.Omega.{arith}
use Rattle.call_change.proofs.DebitLaws.{debit_none, place_below, lent_right, debit_here, debit_not}
use borrow.Author.Rules.{rules}
use Rattle.call_change.proofs.debits.waiting_debit.Goals as goal

-- src/debits.rt:34:17
pub returns-in_err-place : goal.returns-in_err-place
returns-in_err-place c = rw c.from_residual.ensures (search (rules, debit_none, c.in_err-place.was))

-- src/debits.rt:44:13
pub overflow_mul-a : goal.overflow_mul-a
overflow_mul-a c = omega (arith, place_below _ _ _ _ _ c.args.bin c.requires.0 c.waiting.result c.waiting.ensures _ c.in_ok-place.was)

-- src/debits.rt:45:13
pub overflow_add-e : goal.overflow_add-e
overflow_add-e c = omega (arith, place_below _ _ _ _ _ c.args.bin c.requires.0 c.waiting.result c.waiting.ensures _ c.in_ok-place.was)

-- src/debits.rt:46:40
pub offset_bounds-batches-a : goal.offset_bounds-batches-a
offset_bounds-batches-a c = omega (arith, place_below _ _ _ _ _ c.args.bin c.requires.0 c.waiting.result c.waiting.ensures _ c.in_ok-place.was)

-- src/debits.rt:46:40
pub slice_bounds-has_debit-end : goal.slice_bounds-has_debit-end
slice_bounds-has_debit-end c = omega (arith, place_below _ _ _ _ _ c.args.bin c.requires.0 c.waiting.result c.waiting.ensures _ c.in_ok-place.was)

-- src/debits.rt:46:8
pub has_debit-requires : goal.has_debit-requires
has_debit-requires c = lent_right _ _ _ _ _ c.args.bin c.args.bank c.waiting.result c.waiting.ensures c.requires.0 c.requires.1 _ c.in_ok-place.was

-- src/debits.rt:47:9
pub returns-then-has_debit : goal.returns-then-has_debit
returns-then-has_debit c = search (rules, debit_here, c.in_ok-place.was)

-- src/debits.rt:28:1
pub returns : goal.returns
returns c = search (rules, debit_not, c.in_ok-place.was)
