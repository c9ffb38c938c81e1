-- The values of a request's fields, in the order of document 01's table, each by what stands at a place of the text.
use Rattle.std.specs.Prelude.{ℕ, ◌+◌, ◌*◌, ◌-◌, List, Bool, true, false, ◌&&◌, ◌||◌, cond, drop, take, leb, eqb, Option, Some, None, Result, Ok, Err}
use Rattle.chars.specs.Words.{bytes}
use Rattle.chars.specs.declared.Refusal.{Refusal}
use Rattle.chars.specs.declared.Refusal.TheVariants.{Malformed}
use Rattle.clock.specs.Clock.{minute_of}
use Rattle.codes.specs.Codes.{short_at, long_of}
use Rattle.codes.specs.declared.Code.{Code}
use Rattle.dates.specs.Dates.{day_of}
use Rattle.text_scan.specs.Scan.{on_next, lit_at, codes_at, code_at, digits_at, number_at}
use Rattle.text_scan.specs.declared.Run.{Run}
use Rattle.text_values.specs.declared.Part.{Part}

-- of a value that the text does not have
abbrev pub no_part : Part
no_part = record { start = 0; end = 0 }

-- "the part of the text where it stands"
unfoldable pub text_of : List ℕ → Part → List ℕ
text_of s p = take (p.end - p.start) (drop p.start s)

-- the code of a reference or a BIN that stands there
unfoldable pub code_of : List ℕ → Part → Code
code_of s p = long_of (text_of s p)

-- "the first break gives 87"
abbrev pub malformed : Result (ℕ × ℕ) Refusal
malformed = Err Malformed

abbrev pub stands : Option ℕ → Bool
stands (Some n) = true
stands None = false

abbrev pub on_digits : {A : Type 0} → Option (ℕ × ℕ) → A → (ℕ → ℕ → A) → A
on_digits (Some (v, e)) d k = k v e
on_digits None d k = d

abbrev pub on_day : {A : Type 0} → Option ℕ → A → (ℕ → A) → A
on_day (Some n) d k = k n
on_day None d k = d

abbrev pub on_minute : {A : Type 0} → Option ℕ → A → (ℕ → A) → A
on_minute (Some n) d k = k n
on_minute None d k = d

-- 20: "reference, 1 to 16 of A-Z 0-9, not beginning RITS, ACLR or ASXC"
unfoldable pub forbidden_at : List ℕ → ℕ → Bool
forbidden_at s at =
    stands (lit_at s at (bytes "RITS")) || (stands (lit_at s at (bytes "ACLR")) || stands (lit_at s at (bytes "ASXC")))

unfoldable pub reference_at : List ℕ → ℕ → Result (ℕ × ℕ) Refusal
reference_at s at =
    cond (eqb (codes_at s at 16) at) malformed
    (cond (forbidden_at s at) malformed
    (Ok (0, codes_at s at 16)))

-- 12: "three digits"
unfoldable pub numeral_at : List ℕ → ℕ → ℕ → Result (ℕ × ℕ) Refusal
numeral_at s at n = on_digits (number_at s at n) malformed (λ v e. Ok (v, e))

-- 22A: "stream, 4 of A-Z 0-9"; 102 "is a bank, 4 of A-Z 0-9"
unfoldable pub word_at : List ℕ → ℕ → ℕ → Result (ℕ × ℕ) Refusal
word_at s at n = on_next (code_at s at n) malformed (λ e. Ok (short_at s at, e))

-- 119: "BIN: the 4 of the stream, then 4 digits"
unfoldable pub bin_at : List ℕ → ℕ → Part → Result (ℕ × ℕ) Refusal
bin_at s at stream =
    on_next (lit_at s at (text_of s stream)) malformed (λ a.
    on_digits (number_at s a 4) malformed (λ v e.
    Ok (0, e)))

-- 16A: "nn/nn: number, count; 01 to 10, number not above count"
unfoldable pub numbered : ℕ → ℕ → Bool
numbered n m = leb 1 n && (leb n m && leb m 10)

unfoldable pub numbers_at : List ℕ → ℕ → Result (ℕ × ℕ) Refusal
numbers_at s at =
    on_digits (number_at s at 2) malformed (λ n a.
    on_next (lit_at s a (bytes "/")) malformed (λ b.
    on_digits (number_at s b 2) malformed (λ m e.
    cond (numbered n m) (Ok (n, e)) malformed)))

-- the count stands behind the number and a stroke
unfoldable pub count_in : List ℕ → ℕ
count_in v = on_digits (number_at v 3 2) 0 (λ m e. m)

-- 171: "settlement date YYMMDD, a true date of 2000 to 2099"
unfoldable pub date_at : List ℕ → ℕ → Result (ℕ × ℕ) Refusal
date_at s at =
    on_digits (number_at s at 6) malformed (λ v e.
    on_day (day_of v) malformed (λ d.
    Ok (d, e)))

-- 175: "activation HHMM, 00 to 23 and 00 to 59"
unfoldable pub time_at : List ℕ → ℕ → Result (ℕ × ℕ) Refusal
time_at s at =
    on_digits (number_at s at 4) malformed (λ v e.
    on_minute (minute_of v) malformed (λ m.
    Ok (m, e)))

-- "127 is `CR` or `DR`": 0 and 1
unfoldable pub side_at : List ℕ → ℕ → Result (ℕ × ℕ) Refusal
side_at s at =
    on_next (lit_at s at (bytes "CR"))
    (on_next (lit_at s at (bytes "DR")) malformed (λ e. Ok (1, e)))
    (λ e. Ok (0, e))

-- "`12,5` is 1,250": what the digits from a place on are in hundredths
unfoldable pub hundredths : ℕ → Run → ℕ
hundredths b f = cond (eqb f.end (b + 1)) (f.value * 10) f.value

-- "32B is `AUD`, 1 to 10 digits, a comma, 0 to 2 digits"
unfoldable pub amount_at : List ℕ → ℕ → Result (ℕ × ℕ) Refusal
amount_at s at =
    on_next (lit_at s at (bytes "AUD")) malformed (λ a.
    cond (eqb (digits_at s a 10).end a) malformed
    (on_next (lit_at s (digits_at s a 10).end (bytes ",")) malformed (λ b.
    Ok ((digits_at s a 10).value * 100 + hundredths b (digits_at s b 2), (digits_at s b 2).end))))

-- 203: "number of payments in this message, 1 or 2 digits, no leading zero"
unfoldable pub count_at : List ℕ → ℕ → ℕ → Result (ℕ × ℕ) Refusal
count_at s at n =
    on_next (lit_at s at (bytes "0"))
    (cond (eqb (digits_at s at 2).end at) malformed
    (cond (eqb (digits_at s at 2).value n) (Ok ((digits_at s at 2).value, (digits_at s at 2).end)) malformed))
    (λ e. malformed)
