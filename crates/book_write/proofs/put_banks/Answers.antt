use native.Mathlib.Omega.{arith}
use Prim.Native.Nat.{◌+◌, ◌*◌, ◌-◌}
use Rattle.book_write.specs.Closing.{bank_bytes}
use Rattle.book_write.proofs.Storing.{storing_each, storing_entry, storing_done, joined_none, bank_length}
use Rattle.book_write.proofs.put_banks.Goals as goal

pub loop-i-init : goal.loop-i-init
loop-i-init c =
    let at = c.args.at in
    let from = c.args.from in
    let n = c.args.n in
    (omega arith, storing_each bank_bytes _ _ at from n (at + 24 * 0) (from + 0) (n - 0) (omega arith) (omega arith) (omega arith))

pub bounds-codes-b : goal.bounds-codes-b
bounds-codes-b c = omega (arith, c.requires.reaching.in_codes)

pub bounds-flags-b : goal.bounds-flags-b
bounds-flags-b c = omega (arith, c.requires.reaching.in_flags)

pub bounds-balances-b : goal.bounds-balances-b
bounds-balances-b c = omega (arith, c.requires.reaching.in_balances)

pub bounds-sublimits-b : goal.bounds-sublimits-b
bounds-sublimits-b c = omega (arith, c.requires.reaching.in_sublimits)

pub loop-i-preserved : goal.loop-i-preserved
loop-i-preserved c =
    let i = c.loop-i.i in
    let at = c.args.at in
    let from = c.args.from in
    let n = c.args.n in (
      omega arith,
      storing_entry bank_bytes _ 24 bank_length (at + 24 * i) (from + i) (n - i) (at + 24 * (i + 1)) (from + (i + 1)) (n - (i + 1))
          c.loop-i.invariant.1 (omega arith) c.put_bank.ensures (omega arith) (omega arith) (omega arith),
    )

pub shape_of-out : goal.shape_of-out
shape_of-out c = c.loop-i.invariant.1.size

pub returns : goal.returns
returns c = storing_done c.loop-i.invariant.1 (joined_none bank_bytes _ (c.args.from + c.loop-i.i) (c.args.n - c.loop-i.i) (omega arith))
