-- The cover rule.
use Rattle.std.specs.Prelude.{ℕ, ◌+◌, ◌/◌, Bool, false, cond, leb}
use Rattle.chars.specs.Words.{bytes, member}

-- "four characters for ESA, credit, cash and an unused place", as one number: the first is the ESA letter, and weighs so much
abbrev pub first_letter : ℕ
first_letter = 16777216

abbrev pub esa : ℕ → ℕ
esa letters = letters / first_letter

-- "A debit with ESA status P is covered when amount ≤ balance; A when amount ≤ balance less sub-limit; D never."
-- A space means A. A sub-limit above the balance leaves nothing, not even for an amount of 0.
unfoldable pub covered : (letters balance sublimit cents : ℕ) → Bool
covered letters balance sublimit cents =
    cond (member (esa letters) (bytes "P")) (leb cents balance)
    (cond (member (esa letters) (bytes " A")) (leb (cents + sublimit) balance) false)
