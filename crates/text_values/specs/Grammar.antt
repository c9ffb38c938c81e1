-- The values of document 01's table as a grammar: what it means that a list of bytes is such a value.
use Rattle.std.specs.Prelude.{ℕ, ◌+◌, ◌*◌, ◌≤◌, ◌<◌, ◌≡◌, true, false, ◌||◌, cond, List, [], ◌∷◌, ◌++◌, ◌⊎◌, eqb, length, Some}
use Rattle.chars.specs.Words.{bytes}
use Rattle.chars.specs.Chars.{is_code, is_digit}
use Rattle.dates.specs.Dates.{day_of}
use Rattle.clock.specs.Clock.{minute_of}
use Rattle.text_scan.specs.Scan.{begins}
use Rattle.text_scan.specs.Spelling.{All, value_of}
use Rattle.text_values.specs.Values.{numbered}
use Rattle.text_values.specs.Letters.{is_status, is_fourth}

-- "empty"
abbrev pub IsEmpty : List ℕ → Type 0
IsEmpty v = v ≡ []

-- "reference, 1 to 16 of A-Z 0-9, not beginning RITS, ACLR or ASXC"
pub record IsReference (v : List ℕ) : Type 0 where
  pub some : 0 < length v
  pub most : length v ≤ 16
  pub all : All is_code v
  pub free : (begins (bytes "RITS") v || (begins (bytes "ACLR") v || begins (bytes "ASXC") v)) ≡ false

-- just n digits
pub record IsNumeral (n : ℕ) (v : List ℕ) : Type 0 where
  pub size : length v ≡ n
  pub all : All is_digit v

-- just n of A-Z 0-9
pub record IsWord (n : ℕ) (v : List ℕ) : Type 0 where
  pub size : length v ≡ n
  pub all : All is_code v

-- "BIN: the 4 of the stream, then 4 digits"
pub record IsBin (stream v : List ℕ) : Type 0 where
  pub digits : List ℕ
  pub is : v ≡ stream ++ digits
  pub four : IsNumeral 4 digits

-- "nn/nn: number, count; 01 to 10, number not above count"
pub record IsNumbers (v : List ℕ) : Type 0 where
  pub number : List ℕ
  pub count : List ℕ
  pub is : v ≡ number ++ (bytes "/" ++ count)
  pub two : IsNumeral 2 number
  pub too : IsNumeral 2 count
  pub range : numbered (value_of 0 number) (value_of 0 count) ≡ true

-- "YYMMDD, a true date of 2000 to 2099"
pub record IsDate (v : List ℕ) : Type 0 where
  pub six : IsNumeral 6 v
  pub day : ℕ
  pub true_date : day_of (value_of 0 v) ≡ Some day

-- "HHMM, 00 to 23 and 00 to 59"
pub record IsTime (v : List ℕ) : Type 0 where
  pub four : IsNumeral 4 v
  pub minute : ℕ
  pub true_time : minute_of (value_of 0 v) ≡ Some minute

-- "127 is `CR` or `DR`."
abbrev pub IsSide : List ℕ → Type 0
IsSide v = (v ≡ bytes "CR") ⊎ (v ≡ bytes "DR")

-- "`AUD`, 1 to 10 digits, a comma, 0 to 2 digits"
pub record IsAmount (v : List ℕ) : Type 0 where
  pub whole : List ℕ
  pub part : List ℕ
  pub is : v ≡ bytes "AUD" ++ (whole ++ (bytes "," ++ part))
  pub some : 0 < length whole
  pub most : length whole ≤ 10
  pub short : length part ≤ 2
  pub digits : All is_digit whole
  pub too : All is_digit part

-- "The first three are A, D, P or a space .. The fourth is a space or A-Z."
pub record IsLetters (v : List ℕ) : Type 0 where
  pub esa : ℕ
  pub credit : ℕ
  pub cash : ℕ
  pub unused : ℕ
  pub is : v ≡ esa ∷ credit ∷ cash ∷ unused ∷ []
  pub first : is_status esa ≡ true
  pub second : is_status credit ≡ true
  pub third : is_status cash ≡ true
  pub fourth : is_fourth unused ≡ true

-- "number of payments in this message, 1 or 2 digits, no leading zero"
pub record IsCount (n : ℕ) (v : List ℕ) : Type 0 where
  pub some : 0 < length v
  pub most : length v ≤ 2
  pub digits : All is_digit v
  pub lead : begins (bytes "0") v ≡ false
  pub is : value_of 0 v ≡ n

-- "`12,5` is 1,250": what the digits after the comma are in hundredths
abbrev pub hundredths_in : List ℕ → ℕ
hundredths_in part = cond (eqb (length part) 1) (value_of 0 part * 10) (value_of 0 part)

abbrev pub cents_in : {v : List ℕ} → IsAmount v → ℕ
cents_in g = value_of 0 g.whole * 100 + hundredths_in g.part
