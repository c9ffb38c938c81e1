-- How bytes spell a value.
use Rattle.std.specs.Prelude.{ℕ, ◌+◌, ◌*◌, ◌≡◌, Bool, true, List, [], ◌∷◌}
use Rattle.chars.specs.Chars.{digit_value}

-- the bytes of a list are all of a class
abbrev pub All : (ℕ → Bool) → List ℕ → Type 0
All is [] = Unit {0}
All is (x ∷ l) = (is x ≡ true) × All is l

-- the number v followed by the digits of a list
abbrev pub value_of : ℕ → List ℕ → ℕ
value_of v [] = v
value_of v (x ∷ l) = value_of (v * 10 + digit_value x) l
