-- Codes looked at from their last character on.
use Rattle.std.specs.Prelude.{ℕ, ◌<◌, ◌≡◌, Bool, true, List, ◌++◌, eqb, length}
use Rattle.chars.specs.Chars.{is_code}
use Rattle.codes.specs.Codes.{unpacked, spelled}
use Rattle.codes.specs.declared.Code.{Code}
use Rattle.text_names.specs.rules.Names.{all_are}

abbrev pub is_zero : ℕ → Bool
is_zero x = eqb x 0

-- characters are those of a number, and zeros behind them
pub record Ends (l : List ℕ) (width value : ℕ) : Type 0 where
  pub zeros : List ℕ
  pub is : l ≡ unpacked width value ++ zeros
  pub none : all_are is_zero zeros ≡ true

-- a code of some characters A-Z 0-9, and zeros behind them
pub record Plain (c : Code) : Type 0 where
  pub text : List ℕ
  pub zeros : List ℕ
  pub is : spelled c ≡ text ++ zeros
  pub codes : all_are is_code text ≡ true
  pub none : all_are is_zero zeros ≡ true
  pub some : 0 < length text
