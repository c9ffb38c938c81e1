-- The four letters of 113.
use Rattle.chars.specs.declared.Refusal.{Refusal}
use Rattle.std.specs.Prelude.{ℕ, ◌+◌, List, Bool, ◌||◌, cond, get_or, eqb, Result, Ok, Err}
use Rattle.chars.specs.Words.{bytes, member}
use Rattle.chars.specs.Chars.{is_letter}
use Rattle.chars.specs.declared.Refusal.TheVariants.{WrongEsa, WrongLetter}
use Rattle.codes.specs.Codes.{short_at}
use Rattle.text_scan.specs.Scan.{on_next, line_end_at}
use Rattle.text_values.specs.Values.{malformed}

-- "The first three are A, D, P or a space"
unfoldable pub is_status : ℕ → Bool
is_status b = member b (bytes " ADP")

-- "The fourth is a space or A-Z."
unfoldable pub is_fourth : ℕ → Bool
is_fourth b = eqb b 32 || is_letter b

-- "left to right: a wrong ESA letter 80, a wrong credit or cash letter 81, a wrong fourth 87"
unfoldable pub judged_at : List ℕ → ℕ → ℕ → Result (ℕ × ℕ) Refusal
judged_at s at e =
    cond (is_status (get_or s (at + 0) 0))
    (cond (is_status (get_or s (at + 1) 0))
    (cond (is_status (get_or s (at + 2) 0))
    (cond (is_fourth (get_or s (at + 3) 0))
    (Ok (short_at s at, e))
    malformed)
    (Err WrongLetter))
    (Err WrongLetter))
    (Err WrongEsa)

-- "in 113, if it has exactly four characters": its value ends at the first CR LF
unfoldable pub letters_at : List ℕ → ℕ → Result (ℕ × ℕ) Refusal
letters_at s at =
    on_next (line_end_at s at 4) malformed (λ e.
    cond (eqb e (at + 4)) (judged_at s at e) malformed)
