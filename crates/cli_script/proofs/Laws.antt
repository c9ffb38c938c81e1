-- Searches along a line: where each has come to, and what it finds.
use Prim.Native.Nat.{ℕ, ◌+◌, ◌≤◌, ◌<◌, max}
use mathlib.Core.Path.{◌≡◌, sym, ◌∙◌}
use mathlib.Core.Bool.{Bool, true, false}
use mathlib.Core.List.{List}
use native.Mathlib.Numerals.{add-one}
use native.Mathlib.Omega.{arith}
use lib.ListN.{length, get_or, drop, drop_of_length-le}
use lib.Seq.{drop-cons}
use Rattle.cli_script.specs.Lines.{is_blank, until, with_digit, number_from}
use Rattle.std.specs.Prelude.{Option, Some, None}

-- a search has come to a place
pub record Running (stops : ℕ → Bool) (s : List ℕ) (at i : ℕ) : Type 0 where
  pub reached : i ≤ max at (length s)
  pub same : until stops at (drop at s) ≡ until stops i (drop i s)

module _ (stops : ℕ → Bool) (s : List ℕ) (at i : ℕ) (inv : Running stops s at i) where
  pub run_there : {r : Bool} → i < length s → r ≡ stops (get_or s i 0) → r ≡ true → i ≡ until stops at (drop at s)
  unfolding until
  run_there h p e = sym (inv.same ∙ simp (drop-cons s i 0 h, ← p, e))

  pub run_on : {r : Bool} → i < length s → r ≡ stops (get_or s i 0) → r ≡ false → Running stops s at (i + 1)
  unfolding until
  run_on h p e = record { reached = omega arith; same = inv.same ∙ simp (drop-cons s i 0 h, ← p, e, add-one) }

  pub run_end : at ≤ i → length s ≤ i → max at (length s) ≡ until stops at (drop at s)
  unfolding until
  run_end p h = let z : max at (length s) ≡ i = omega (arith, inv.reached) in rw z (sym (inv.same ∙ simp (drop_of_length-le s h)))

-- the reading of a number has come to a place with a value
pub record Counting (s : List ℕ) (at i v : ℕ) : Type 0 where
  pub reached : i ≤ max at (length s)
  pub same : number_from at 0 (drop at s) ≡ number_from i v (drop i s)

module _ (s : List ℕ) (at i v : ℕ) (inv : Counting s at i v) where
  pub count_there : {b : Bool} → i < length s → b ≡ is_blank (get_or s i 0) → b ≡ true → Some (v, i) ≡ number_from at 0 (drop at s)
  unfolding number_from
  count_there h p e = sym (inv.same ∙ simp (drop-cons s i 0 h, ← p, e))

  pub count_none : {b : Bool} {r : Option ℕ} → i < length s → b ≡ is_blank (get_or s i 0) → b ≡ false → r ≡ with_digit v (get_or s i 0) → r ≡ None → None ≡ number_from at 0 (drop at s)
  unfolding number_from
  count_none h o e p p' = sym (inv.same ∙ simp (drop-cons s i 0 h, ← o, e, ← p, p'))

  pub count_on : {b : Bool} {r : Option ℕ} {w : ℕ} → i < length s → b ≡ is_blank (get_or s i 0) → b ≡ false → r ≡ with_digit v (get_or s i 0) → r ≡ Some w → Counting s at (i + 1) w
  unfolding number_from
  count_on h o e p p' = record { reached = omega arith; same = inv.same ∙ simp (drop-cons s i 0 h, ← o, e, ← p, p', add-one) }

  pub count_line : at ≤ i → length s ≤ i → Some (v, max at (length s)) ≡ number_from at 0 (drop at s)
  unfolding number_from
  count_line p h = let z : max at (length s) ≡ i = omega (arith, inv.reached) in rw z (sym (inv.same ∙ simp (drop_of_length-le s h)))
