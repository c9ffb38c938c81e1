-- Document 01's examples of amounts, computed: marked examples (8) and (9), and those beside the table.
use Rattle.std.specs.Prelude.{Ok}
use mathlib.Core.Path.{◌≡◌, refl}
use Rattle.chars.specs.Words.{bytes}
use Rattle.chars.specs.Chars.{is_digit, digit_value}
use Rattle.chars.specs.Refusals.{number_of}
use Rattle.text_scan.specs.Scan.{begins, lit_at, digits, digits_at}
use Rattle.text_values.specs.Values.{hundredths, amount_at}
use Rattle.text_fields.specs.Fields.{item, place, why_not, field_at}
use Rattle.text_fields.specs.declared.Kind.TheVariants.{Amount}

-- (8) "`0,00` is 0"
pub example_8 : field_at (bytes ":32B:AUD0,00\r\n") 0 (bytes ":32B:") Amount ≡ Ok (item 5 12 0, place 14)
unfolding field_at amount_at lit_at begins digits_at digits is_digit digit_value hundredths
example_8 = refl

-- (9) "`,50` and `10000000000,00` are 87"
pub example_9_bare : number_of (why_not (field_at (bytes ":32B:AUD,50\r\n") 0 (bytes ":32B:") Amount)).refusal ≡ 87
unfolding field_at amount_at lit_at begins digits_at digits is_digit digit_value hundredths
example_9_bare = refl

pub example_9_long : number_of (why_not (field_at (bytes ":32B:AUD10000000000,00\r\n") 0 (bytes ":32B:") Amount)).refusal ≡ 87
unfolding field_at amount_at lit_at begins digits_at digits is_digit digit_value hundredths
example_9_long = refl

-- "`7,` is 700 cents"
pub seven : field_at (bytes ":32B:AUD7,\r\n") 0 (bytes ":32B:") Amount ≡ Ok (item 5 10 700, place 12)
unfolding field_at amount_at lit_at begins digits_at digits is_digit digit_value hundredths
seven = refl

-- "`12,5` is 1,250"
pub tenths : field_at (bytes ":32B:AUD12,5\r\n") 0 (bytes ":32B:") Amount ≡ Ok (item 5 12 1250, place 14)
unfolding field_at amount_at lit_at begins digits_at digits is_digit digit_value hundredths
tenths = refl

-- "`9999999999,99` is 999,999,999,999"
pub largest : field_at (bytes ":32B:AUD9999999999,99\r\n") 0 (bytes ":32B:") Amount ≡ Ok (item 5 21 999999999999, place 23)
unfolding field_at amount_at lit_at begins digits_at digits is_digit digit_value hundredths
largest = refl
