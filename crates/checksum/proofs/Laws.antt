-- A word of a text, and the wrapping sum against the sum modulo 2^32.
use Rattle.std.proofs.Common.{◌≡◌, ℕ, zero, suc, ◌+◌, ◌-◌, ◌*◌, ◌%◌, ◌^◌, ◌<◌, ◌≤◌, List, length, drop, sym, ap, ◌∙◌, add-zero, zero-add, add_assoc, mod-eq_of_lt, arith, drop-drop, le-leb}
use native.Mathlib.Nat.{mod-add-mod}
use borrow.Author.Tests.{lt-leb}
use Rattle.checksum.specs.Sum.{word_of, sum_words, block_sum}

-- where the loop stands: the sum so far and the words that are left
pub record Going (s : List ℕ) (at sum left j : ℕ) : Type 0 where
  pub inside : j + 4 * left ≤ length s
  pub fits : sum < 2 ^ 32
  pub same : (sum + sum_words left (drop j s)) % 2 ^ 32 ≡ sum_words 127 (drop at s) % 2 ^ 32

pub going_start : (s : List ℕ) (at : ℕ) → at + 508 ≤ length s → Going s at 0 127 (at + 0)
going_start s at h = record { inside = omega arith; fits = omega arith; same = simp (add-zero, zero-add) }

sum_down : (left : ℕ) (s : List ℕ) (j : ℕ) → 0 < left → sum_words left (drop j s) ≡ word_of (drop j s) + sum_words (left - 1) (drop (j + 4) s)
unfolding sum_words
sum_down zero s j h = absurd (omega arith)
sum_down (suc n) s j h = let z : suc n - 1 ≡ n = omega arith in simp (z, drop-drop)

module _ {s : List ℕ} {at sum left j : ℕ} (g : Going s at sum left j) where
  pub going_on : {w sum' : ℕ} → 0 < left → w ≡ word_of (drop j s) → sum' ≡ (sum + w) % 2 ^ 32 → Going s at sum' (left - 1) (j + 4)
  going_on {w = w} h p q = record {
    inside = omega (arith, g.inside);
    fits = rw q (omega arith);
    same = rw (q, mod-add-mod, add_assoc, p, ← sum_down left s j h) g.same;
  }

  pub going_done : left ≡ 0 → at + 508 ≤ length s → sum ≡ block_sum s at
  unfolding sum_words block_sum
  going_done e h = sym (mod-eq_of_lt g.fits) ∙ ap (λ (n : ℕ). n % 2 ^ 32) (sym (add-zero sum)) ∙ (rw e at g.same) ∙ simp (le-leb (at + 508) (length s) h)

pub sum_short : (s : List ℕ) (at : ℕ) → length s < at + 508 → 0 ≡ block_sum s at
unfolding block_sum
sum_short s at h = simp (lt-leb (at + 508) (length s) h)
