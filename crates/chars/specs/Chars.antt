-- The classes of bytes, and what a digit stands for.
use Rattle.std.specs.Prelude.{ℕ, ◌-◌, Bool, ◌||◌, cond}
use Rattle.chars.specs.Words.{within}

-- 0-9
unfoldable pub is_digit : ℕ → Bool
is_digit b = within 48 57 b

-- A-Z
unfoldable pub is_letter : ℕ → Bool
is_letter b = within 65 90 b

-- A-Z 0-9
unfoldable pub is_code : ℕ → Bool
is_code b = is_letter b || is_digit b

-- the number that a digit stands for; 0 for a byte that is none
unfoldable pub digit_value : ℕ → ℕ
digit_value b = cond (is_digit b) (b - 48) 0
