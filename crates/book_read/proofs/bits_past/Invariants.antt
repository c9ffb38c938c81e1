use mathlib.Core.Path.{◌≡◌}
use Prim.Native.Nat.{◌-◌}
use Rattle.book_read.specs.Book.{bits_past}
use Rattle.book_read.proofs.bits_past.Given as goal

abbrev pub invariant-loop : goal.invariant-loop
invariant-loop l = bits_past (l.n - l.counter) l.rest ≡ bits_past l.n l.bits
