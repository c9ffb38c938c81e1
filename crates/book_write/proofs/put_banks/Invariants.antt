use Prim.Native.Nat.{◌+◌, ◌*◌, ◌-◌, ◌≤◌}
use Rattle.book_read.specs.Book.{each}
use Rattle.book_write.specs.Closing.{joined, bank_bytes, bank_of}
use Rattle.book_write.proofs.Storing.{Storing}
use Rattle.book_write.proofs.put_banks.Given as goal

abbrev pub invariant-loop-i : goal.invariant-loop-i
invariant-loop-i l = (l.i ≤ l.n) × Storing l.initial.out l.at (joined bank_bytes (each (bank_of l.codes l.flags l.balances l.sublimits) l.from l.n)) l.out (l.at + 24 * l.i) (joined bank_bytes (each (bank_of l.codes l.flags l.balances l.sublimits) (l.from + l.i) (l.n - l.i)))
