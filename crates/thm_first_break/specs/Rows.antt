-- The rows of document 01's table, and those of responses: a tag, what its value is, and the number of a line whose value is none.
use Rattle.std.specs.Prelude.{ℕ, ◌/◌, ◌%◌, ◌≡◌, List, ◌++◌, Bool, true, false, ◌&&◌, cond, ◌⊎◌, eqb, get_or, Some}
use Rattle.chars.specs.Words.{bytes, member}
use Rattle.chars.specs.declared.Refusal.{Refusal}
use Rattle.chars.specs.declared.Refusal.TheVariants.{Malformed, WrongEsa, WrongLetter}
use Rattle.clock.specs.Clock.{second_of}
use Rattle.dates.specs.Dates.{day_of}
use Rattle.text_scan.specs.Scan.{on_next, line_end}
use Rattle.text_scan.specs.Spelling.{value_of}
use Rattle.text_values.specs.Letters.{is_status}
use Rattle.text_values.specs.Grammar.{IsEmpty, IsReference, IsNumeral, IsWord, IsBin, IsNumbers, IsDate, IsTime, IsSide, IsAmount, IsLetters, IsCount}

-- "`B` and seven digits"
pub record IsResponseNumber (v : List ℕ) : Type 0 where
  pub digits : List ℕ
  pub is : v ≡ bytes "B" ++ digits
  pub seven : IsNumeral 7 digits

-- "451 (0 or 1)"
abbrev pub IsOutcome : List ℕ → Type 0
IsOutcome v = (v ≡ bytes "0") ⊎ (v ≡ bytes "1")

-- "13E (date, HHMMSS)": "a true date of 2000 to 2099" and "a true time"
pub record IsMoment (v : List ℕ) : Type 0 where
  pub twelve : IsNumeral 12 v
  pub day : ℕ
  pub second : ℕ
  pub true_date : day_of (value_of 0 v / 1000000) ≡ Some day
  pub true_time : second_of (value_of 0 v % 1000000) ≡ Some second

-- 12 with the sub types that are known, 119 with the stream that it begins with, 203 with the payments that it counts; `no113` is the 113 that "never"
-- stands after CR
pub data Row : Type 0 where
  f20 : Row
  f12 : List ℕ → Row
  f77e : Row
  f22a : Row
  f119 : List ℕ → Row
  f16a : Row
  f171 : Row
  f175 : Row
  f127 : Row
  f32b : Row
  f113 : Row
  no113 : Row
  f102 : Row
  f203 : ℕ → Row
  f_b20 : Row
  f21 : Row
  f451 : Row
  f13e : Row
  f432 : Row

abbrev pub tag_of : Row → List ℕ
tag_of f20 = bytes ":20:"
tag_of (f12 kinds) = bytes ":12:"
tag_of f77e = bytes ":77E:"
tag_of f22a = bytes ":22A:"
tag_of (f119 stream) = bytes ":119:"
tag_of f16a = bytes ":16A:"
tag_of f171 = bytes ":171:"
tag_of f175 = bytes ":175:"
tag_of f127 = bytes ":127:"
tag_of f32b = bytes ":32B:"
tag_of f113 = bytes ":113:"
tag_of no113 = bytes ":113:"
tag_of f102 = bytes ":102:"
tag_of (f203 n) = bytes ":203:"
tag_of f_b20 = bytes ":20:"
tag_of f21 = bytes ":21:"
tag_of f451 = bytes ":451:"
tag_of f13e = bytes ":13E:"
tag_of f432 = bytes ":432:"

-- the bytes are a well-formed value of the row
abbrev pub Is : Row → List ℕ → Type 0
Is f20 v = IsReference v
Is (f12 kinds) v = IsNumeral 3 v
Is f77e v = IsEmpty v
Is f22a v = IsWord 4 v
Is (f119 stream) v = IsBin stream v
Is f16a v = IsNumbers v
Is f171 v = IsDate v
Is f175 v = IsTime v
Is f127 v = IsSide v
Is f32b v = IsAmount v
Is f113 v = IsLetters v
Is no113 v = ⊥
Is f102 v = IsWord 4 v
Is (f203 n) v = IsCount n v
Is f_b20 v = IsResponseNumber v
Is f21 v = IsReference v
Is f451 v = IsOutcome v
Is f13e v = IsMoment v
Is f432 v = IsNumeral 2 v

-- "a well-formed sub type other than 131 or 133", of a response than 132 or 134, is not known; every other well-formed value is
abbrev pub known : Row → List ℕ → Bool
known (f12 kinds) v = member (value_of 0 v) kinds
known f20 v = true
known f77e v = true
known f22a v = true
known (f119 stream) v = true
known f16a v = true
known f171 v = true
known f175 v = true
known f127 v = true
known f32b v = true
known f113 v = true
known no113 v = true
known f102 v = true
known (f203 n) v = true
known f_b20 v = true
known f21 v = true
known f451 v = true
known f13e v = true
known f432 v = true

-- "if it has exactly four characters": the first CR LF stands behind four of them
abbrev pub four_characters : List ℕ → Bool
four_characters l = on_next (line_end 4 0 l) false (λ e. eqb e 4)

-- "left to right: a wrong ESA letter 80, a wrong credit or cash letter 81, a wrong fourth 87"
abbrev pub by_letters : List ℕ → Refusal
by_letters l = cond (is_status (get_or l 0 0)) (cond (is_status (get_or l 1 0) && is_status (get_or l 2 0)) Malformed WrongLetter) WrongEsa

-- the number of a line whose value is not well-formed, by what stands behind its tag
abbrev pub refusal_of : Row → List ℕ → Refusal
refusal_of f113 l = cond (four_characters l) (by_letters l) Malformed
refusal_of f20 l = Malformed
refusal_of (f12 kinds) l = Malformed
refusal_of f77e l = Malformed
refusal_of f22a l = Malformed
refusal_of (f119 stream) l = Malformed
refusal_of f16a l = Malformed
refusal_of f171 l = Malformed
refusal_of f175 l = Malformed
refusal_of f127 l = Malformed
refusal_of f32b l = Malformed
refusal_of no113 l = Malformed
refusal_of f102 l = Malformed
refusal_of (f203 n) l = Malformed
refusal_of f_b20 l = Malformed
refusal_of f21 l = Malformed
refusal_of f451 l = Malformed
refusal_of f13e l = Malformed
refusal_of f432 l = Malformed
