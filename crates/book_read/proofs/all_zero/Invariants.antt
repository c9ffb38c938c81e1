use Prim.Native.Nat.{◌+◌, ◌-◌}
use mathlib.Core.Path.{◌≡◌}
use mathlib.Core.Bool.{◌&&◌}
use Rattle.book_read.specs.Block.{zeros_at}
use Rattle.book_read.proofs.all_zero.Given as goal

abbrev pub invariant-loop-j : goal.invariant-loop-j
invariant-loop-j l = (l.all && zeros_at l.s l.j (l.at + l.n - l.j)) ≡ zeros_at l.s l.at l.n
