use Prim.Native.Nat.{◌+◌, ◌*◌}
use Rattle.book_read.specs.Accounts.{stream_at}
use Rattle.book_read.proofs.Filling.{Pairing}
use Rattle.book_read.proofs.read_streams.Given as goal

abbrev pub invariant-loop-i : goal.invariant-loop-i
invariant-loop-i l = Pairing (λ j. stream_at l.s (8 * j + 16)) l.n l.initial.out l.out l.i
