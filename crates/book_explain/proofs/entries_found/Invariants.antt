use Prim.Native.Nat.{ℕ, ◌+◌, ◌*◌, ◌-◌, ◌≤◌}
use mathlib.Core.List.{List}
use mathlib.Core.Path.{◌≡◌}
use Rattle.book_explain.specs.Faults.{Test, Finding, first_failed, entry_tests}
use Rattle.book_explain.proofs.entries_found.Given as goal

abbrev pub invariant-loop-i : goal.invariant-loop-i
invariant-loop-i g l =
    (tests : ℕ → ℕ → ℕ → List Test) → ((i before at : ℕ) (r : Finding) → at ≤ 16384 → goal.F-post g l.found i before at r → r ≡ first_failed (tests i before at))
    → first_failed (entry_tests l.s l.width tests l.i l.before (l.from + l.width * l.i) (l.n - l.i)) ≡ first_failed (entry_tests l.s l.width tests 0 l.first l.from l.n)
