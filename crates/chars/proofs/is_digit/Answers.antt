use Rattle.chars.specs.Chars.{is_digit}
use Rattle.chars.proofs.is_digit.Goals as goal

pub returns : goal.returns
unfolding is_digit
returns c = c.is_ascii_digit.ensures.value
