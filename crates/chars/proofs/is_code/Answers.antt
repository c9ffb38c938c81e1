use mathlib.Core.Path.{◌≡◌, sym, ◌∙◌}
use mathlib.Core.Bool.{true, false}
use Rattle.chars.specs.Chars.{is_code, is_letter, is_digit}
use Rattle.chars.proofs.is_code.Goals as goal

pub returns-then-is_ascii_uppercase : goal.returns-then-is_ascii_uppercase
unfolding is_code is_letter is_digit
returns-then-is_ascii_uppercase c =
    let e : is_letter c.args.b ≡ true = sym c.is_ascii_uppercase.ensures.value ∙ c.if-is_ascii_uppercase.true in
    c.if-is_ascii_uppercase.true ∙ rw e

pub returns-else-is_ascii_uppercase : goal.returns-else-is_ascii_uppercase
unfolding is_code is_letter is_digit
returns-else-is_ascii_uppercase c =
    let e : is_letter c.args.b ≡ false = sym c.is_ascii_uppercase.ensures.value ∙ c.if-is_ascii_uppercase.false in
    c.is_ascii_digit.ensures.value ∙ rw e
