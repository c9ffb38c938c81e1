-- What a row of words says, part by part.
use Prim.Native.Nat.{ℕ, ◌+◌, ◌-◌}
use mathlib.Core.Path.{◌≡◌}
use mathlib.Core.Bool.{Bool}
use mathlib.Core.List.{List}
use native.Mathlib.Omega.{arith}
use lib.ListN.{get_or, take, drop}
use Rattle.chars.specs.Words.{Says}
use Rattle.model.specs.declared.Phase.{Phase}
use Rattle.tables.specs.declared.Desk.{Desk}
use Rattle.tables.specs.Moment.{lent_on}
use Rattle.tables.specs.Lent.{Right}
use Rattle.tables_as_row.specs.RowWords.{phase_by, desk_in, lent_of, tables_in}

-- ---- the desk

pub desk_read : (w : List ℕ) (p : Phase) (s : List ℕ) → p ≡ phase_by (get_or w 0 0) → s ≡ take 16 (drop 6 w)
    → record { phase = p; date = get_or w 1 0; clock = get_or w 2 0; texts = get_or w 3 0; banks = get_or w 4 0; streams = s; n = get_or w 5 0 } ≡ desk_in w
unfolding desk_in
desk_read w p s e f = rw (e, f)

-- ---- the tables

cut : (k n : ℕ) → (k + n) - k ≡ n
cut k n = omega arith

pub tables_say : (w : List ℕ) (r : Bool) {a b c d e f g k : ℕ} {desk : Desk} → desk ≡ desk_in w → a ≡ lent_of w 0 65 → b ≡ lent_of w 1 65 → c ≡ lent_of w 2 65
    → d ≡ lent_of w 3 65 → e ≡ lent_of w 4 11169 → f ≡ lent_of w 5 6145 → g ≡ lent_of w 6 1537 → k ≡ lent_of w 7 65
    → Says (Right desk (lent_on (take (32 + a - 32) (drop 32 w)) (take (128 + b - 128) (drop 128 w)) (take (224 + c - 224) (drop 224 w))
    (take (320 + d - 320) (drop 320 w)) (take (512 + e - 512) (drop 512 w)) (take (11776 + f - 11776) (drop 11776 w)) (take (17984 + g - 17984) (drop 17984 w))
    (take (19584 + k - 19584) (drop 19584 w)))) r
    → Says (Right (desk_in w) (tables_in w)) r
unfolding tables_in
tables_say w r {a} {b} {c} {d} {e} {f} {g} {k} {desk} p₀ p₁ p₂ p₃ p₄ p₅ p₆ p₇ p₈ h =
    let z : Says (Right desk (lent_on (take a (drop 32 w)) (take b (drop 128 w)) (take c (drop 224 w)) (take d (drop 320 w)) (take e (drop 512 w))
    (take f (drop 11776 w)) (take g (drop 17984 w)) (take k (drop 19584 w)))) r =
    rw (cut 32 a, cut 128 b, cut 224 c, cut 320 d, cut 512 e, cut 11776 f, cut 17984 g, cut 19584 k) at h in
    rw (p₀, p₁, p₂, p₃, p₄, p₅, p₆, p₇, p₈) at z
