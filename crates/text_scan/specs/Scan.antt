-- What stands at a place of a text. A place is a number, and the text from it on is `drop at s`.
use Rattle.std.specs.Prelude.{ℕ, zero, suc, ◌+◌, ◌*◌, ◌<◌, List, [], ◌∷◌, Bool, true, false, ◌&&◌, cond, length, drop, leb, ltb, eqb, Option, Some, None}
use Rattle.chars.specs.Words.{crlf}
use Rattle.chars.specs.Chars.{is_code, is_digit, digit_value}
use Rattle.text_scan.specs.declared.Run.{Run}

-- what follows a step that was made, or what stands for one that was not
abbrev pub on_next : {A : Type 0} → Option ℕ → A → (ℕ → A) → A
on_next (Some n) d k = k n
on_next None d k = d

-- the list begins with the fixed string
unfoldable pub begins : List ℕ → List ℕ → Bool
begins [] l = true
begins (p ∷ ps) [] = false
begins (p ∷ ps) (x ∷ l) = eqb x p && begins ps l

unfoldable pub lit_at : List ℕ → ℕ → List ℕ → Option ℕ
lit_at s at p = cond (begins p (drop at s)) (Some (at + length p)) None

-- how many bytes of a class stand at the head of a list, at most n
unfoldable pub run : (ℕ → Bool) → ℕ → List ℕ → ℕ
run is zero l = zero
run is (suc n) [] = zero
run is (suc n) (x ∷ l) = cond (is x) (suc (run is n l)) zero

-- past the A-Z 0-9, at most n
unfoldable pub codes_at : List ℕ → ℕ → ℕ → ℕ
codes_at s at n = at + run is_code n (drop at s)

-- just n of A-Z 0-9
unfoldable pub code_at : List ℕ → ℕ → ℕ → Option ℕ
code_at s at n = cond (eqb (run is_code n (drop at s)) n) (Some (at + n)) None

-- the digits at the head of a list, at most n: the place past them, and the number v followed by them
unfoldable pub digits : ℕ → ℕ → ℕ → List ℕ → Run
digits zero at v l = record { end = at; value = v }
digits (suc n) at v [] = record { end = at; value = v }
digits (suc n) at v (x ∷ l) = cond (is_digit x) (digits n (at + 1) (v * 10 + digit_value x) l) (record { end = at; value = v })

unfoldable pub digits_at : List ℕ → ℕ → ℕ → Run
digits_at s at n = digits n at 0 (drop at s)

-- a number has at most 18 digits
abbrev pub most : ℕ → ℕ
most n = cond (ltb n 18) n 18

-- 10 to the power n
abbrev pub ten : ℕ → ℕ
ten zero = 1
ten (suc n) = 10 * ten n

-- a number of just n digits
unfoldable pub number_at : List ℕ → ℕ → ℕ → Option (ℕ × ℕ)
number_at s at n =
    cond (leb n 18)
    (cond (eqb (digits_at s at n).end (at + n)) (Some ((digits_at s at n).value, at + n)) None)
    None

-- it is below 10 to the power n
abbrev pub Fits : ℕ → Option (ℕ × ℕ) → Type 0
Fits n (Some (v, e)) = v < ten n
Fits n None = Unit {0}

-- where the first CR LF of a list stands that begins at a place, no more than n bytes on
unfoldable pub line_end : ℕ → ℕ → List ℕ → Option ℕ
line_end zero at l = cond (begins crlf l) (Some at) None
line_end (suc n) at [] = None
line_end (suc n) at (x ∷ l) = cond (begins crlf (x ∷ l)) (Some at) (line_end n (at + 1) l)

unfoldable pub line_end_at : List ℕ → ℕ → ℕ → Option ℕ
line_end_at s at n = line_end n at (drop at s)
