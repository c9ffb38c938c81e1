-- The last numbers of a line of numbers.
use Rattle.std.specs.Prelude.{ℕ, ◌+◌, ◌*◌, List, cond, ltb, fold}
use Rattle.chars.specs.Chars.{is_digit, digit_value}
use Rattle.cli_files.specs.declared.numbers.Numbers.{Numbers}

-- a number after one more digit, which is left out where the number would not fit 64 bits with any digit
abbrev pub with_digit : ℕ → ℕ → ℕ
with_digit v b = cond (ltb v 1844674407370955161) (v * 10 + digit_value b) v

-- one more byte: a digit goes on with the last number, another byte ends it
unfoldable pub with_byte : Numbers → ℕ → Numbers
with_byte n b =
    cond (is_digit b)
    (record { a = n.a; b = n.b; c = n.c; d = n.d; e = with_digit n.e b })
    (record { a = n.b; b = n.c; c = n.d; d = n.e; e = 0 })

-- the last five numbers of a line
abbrev pub last_numbers : List ℕ → Numbers
last_numbers line = fold with_byte (record { a = 0; b = 0; c = 0; d = 0; e = 0 }) line
