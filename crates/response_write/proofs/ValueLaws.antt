-- What is written is the whole text, and one that can be held.
use Rattle.std.specs.Prelude.{Result, Ok, Err}
use Prim.Native.Nat.{ℕ, ◌+◌, ◌-◌, ◌≤◌}
use mathlib.Core.Path.{◌≡◌, refl}
use mathlib.Core.Bool.{Bool, true, false, cond}
use mathlib.Core.List.{List, ◌++◌, append_assoc}
use native.Mathlib.Omega.{arith}
use borrow.Author.Tests.{leb-true}
use lib.ListN.{length, take, drop}
use lib.Seq.{sets, sets-eq, drop_at, take-append_seam, length-take-le}
use Rattle.chars.specs.declared.Refusal.{Refusal}
use Rattle.chars.specs.declared.Refusal.TheVariants.{Malformed, ShortBuffer}
use Rattle.response_write.specs.Texts.{fits}
use Rattle.response_write.specs.Values.{written_if, after_if}

-- a text that fits stands where it was written
there : (out : List ℕ) (at : ℕ) (text : List ℕ) → at + length text ≤ length out → take (length text) (drop at (sets out at text)) ≡ text
there out at text h =
    let n : length (take at out) ≡ at = length-take-le at out (omega arith) in
    rw (sets-eq text out at h, append_assoc, drop_at (take at out) (text ++ drop (at + length text) out) at n) (take-append_seam text (drop (at + length text) out))

ended : {e : ℕ} (n : ℕ) → ◌≡◌ {A = Result ℕ Refusal} (Ok n) (Ok e) → e ≡ n
ended n h = cc

module _ (holds : Bool) (out : List ℕ) (at : ℕ) (text : List ℕ) {e : ℕ} (w : written_if holds out at text ≡ Ok e) where
  no_end : {f : Refusal} → ◌≡◌ {A = Result ℕ Refusal} (Err f) (Ok e) → ⊥
  no_end h = let z : ◌≡◌ {A = ℕ} 0 1 = cc in omega arith

  pub written_held : holds ≡ true
  written_held = go holds w
    where
      go : (h : Bool) → written_if h out at text ≡ Ok e → h ≡ true
      go true g = refl
      go false g = absurd (no_end g)

  pub written_whole : take (e - at) (drop at (after_if holds out at text)) ≡ text
  written_whole = go holds w (fits out at text) refl
    where
      go : (h : Bool) → cond h (cond (fits out at text) (Ok (at + length text)) (Err ShortBuffer)) (Err Malformed) ≡ Ok e
          → (t : Bool) → fits out at text ≡ t → take (e - at) (drop at (cond h (cond (fits out at text) (sets out at text) out) out)) ≡ text
      go false g t f = absurd (no_end g)
      go true g false f = absurd (no_end (rw f at g))
      go true g true f =
          let z : e ≡ at + length text = ended (at + length text) (rw f at g) in
          let n : e - at ≡ length text = omega arith in
          rw (f, n) (there out at text (leb-true (at + length text) (length out) f))
