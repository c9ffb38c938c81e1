-- Document 01's marked examples 1 to 7. Letters: the first of four decides, here with three spaces behind it.
use mathlib.Core.Path.{◌≡◌, refl}
use mathlib.Core.Bool.{true, false}
use mathlib.Core.List.{List, [], ◌∷◌}
use Prim.Native.Nat.{ℕ, ◌+◌, ◌*◌}
use Rattle.chars.specs.Words.{bytes}
use Rattle.settle.specs.Cover.{covered}

-- four characters as one number, the first the highest
abbrev pub lettered : List ℕ → ℕ
lettered s = number 0 s
  where
    number : ℕ → List ℕ → ℕ
    number n [] = n
    number n (c ∷ cs) = number (n * 256 + c) cs

pub examples_1_to_7 : (covered (lettered (bytes "A   ")) 100000 30000 70000 ≡ true)
    × (covered (lettered (bytes "A   ")) 100000 30000 70001 ≡ false)
    × (covered (lettered (bytes "P   ")) 100000 30000 100000 ≡ true)
    × (covered (lettered (bytes "P   ")) 100000 30000 100001 ≡ false)
    × (covered (lettered (bytes "D   ")) 100000 30000 0 ≡ false)
    × (covered (lettered (bytes "A   ")) 20000 30000 0 ≡ false)
    × (covered (lettered (bytes "P   ")) 20000 30000 0 ≡ true)
unfolding covered
examples_1_to_7 = (refl, refl, refl, refl, refl, refl, refl)

-- a space means A
pub space_is_A : (covered (lettered (bytes " DD ")) 100000 30000 70000 ≡ true) × (covered (lettered (bytes " DD ")) 100000 30000 70001 ≡ false)
unfolding covered
space_is_A = (refl, refl)
