-- A line as a grammar: a tag, a value of its kind and CR LF.
use Rattle.std.specs.Prelude.{ℕ, ◌≡◌, List, ◌++◌}
use Rattle.chars.specs.Words.{line}
use Rattle.text_values.specs.Values.{text_of}
use Rattle.text_values.specs.Grammar.{IsEmpty, IsReference, IsNumeral, IsWord, IsBin, IsNumbers, IsDate, IsTime, IsSide, IsAmount, IsLetters, IsCount}
use Rattle.text_fields.specs.declared.Kind.{Kind}
use Rattle.text_fields.specs.declared.Kind.TheVariants.{Empty, Reference, Numeral, Word, Bin, Numbers, Date, Time, Side, Amount, Letters, Count}

-- the bytes are a value of the kind; a BIN's stream stands in the text s
abbrev pub Spelt : List ℕ → Kind → List ℕ → Type 0
Spelt s Empty v = IsEmpty v
Spelt s Reference v = IsReference v
Spelt s (Numeral n) v = IsNumeral n v
Spelt s (Word n) v = IsWord n v
Spelt s (Bin p) v = IsBin (text_of s p) v
Spelt s Numbers v = IsNumbers v
Spelt s Date v = IsDate v
Spelt s Time v = IsTime v
Spelt s Side v = IsSide v
Spelt s Amount v = IsAmount v
Spelt s Letters v = IsLetters v
Spelt s (Count n) v = IsCount n v

-- "A line is `:tag:value` and CR LF": l is such a line, and then r
pub record Line (tag : List ℕ) (P : List ℕ → Type 0) (l r : List ℕ) : Type 0 where
  pub value : List ℕ
  pub text : l ≡ line tag value ++ r
  pub is : P value
