use Prim.Native.Nat.{ℕ, ◌+◌, ◌*◌, ◌-◌, ◌≤◌}
use mathlib.Core.Bool.{Bool}
use mathlib.Core.Path.{◌≡◌}
use Rattle.book_read.specs.Block.{entries_right}
use Rattle.book_read.proofs.entries_right.Given as goal

abbrev pub invariant-loop-i : goal.invariant-loop-i
invariant-loop-i g l =
    (r : ℕ → Bool) → ((at : ℕ) (b : Bool) → at ≤ 16384 → goal.F-post g l.right at b → b ≡ r at)
    → entries_right l.s l.width r l.before (l.from + l.width * l.i) (l.n - l.i) ≡ entries_right l.s l.width r l.first l.from l.n
