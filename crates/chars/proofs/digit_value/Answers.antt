use mathlib.Core.Path.{◌≡◌, sym, ◌∙◌}
use mathlib.Core.Bool.{true, false}
use Rattle.chars.specs.Chars.{is_digit, digit_value}
use Rattle.chars.proofs.digit_value.Goals as goal

pub returns-then-is_ascii_digit-clause-value : goal.returns-then-is_ascii_digit-clause-value
unfolding digit_value is_digit
returns-then-is_ascii_digit-clause-value c =
    let e : is_digit c.args.b ≡ true = sym c.is_ascii_digit.ensures.value ∙ c.if-is_ascii_digit.true in
    c.from.ensures ∙ rw e

pub returns-else-is_ascii_digit-clause-value : goal.returns-else-is_ascii_digit-clause-value
unfolding digit_value is_digit
returns-else-is_ascii_digit-clause-value c =
    let e : is_digit c.args.b ≡ false = sym c.is_ascii_digit.ensures.value ∙ c.if-is_ascii_digit.false in
    rw e
