use Prim.Native.Nat.{ℕ, ◌<◌}
use mathlib.Core.Bool.{Bool}
use mathlib.Core.Path.{◌≡◌}
use Rattle.cli_script.proofs.Laws.{Running}
use Rattle.cli_script.proofs.next_that.Given as goal

abbrev pub invariant-loop-i : goal.invariant-loop-i
invariant-loop-i g l = (f : ℕ → Bool) → ((b : ℕ) (r : Bool) → b < 256 → goal.F-post g l.stops b r → r ≡ f b) → Running f l.s l.at l.i
