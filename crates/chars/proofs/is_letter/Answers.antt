use Rattle.chars.specs.Chars.{is_letter}
use Rattle.chars.proofs.is_letter.Goals as goal

pub returns : goal.returns
unfolding is_letter
returns c = c.is_ascii_uppercase.ensures.value
