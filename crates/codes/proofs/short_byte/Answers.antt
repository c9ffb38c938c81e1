use Rattle.codes.specs.Codes.{short_text}
use Rattle.codes.proofs.short_byte.Goals as goal

pub returns : goal.returns
unfolding short_text
returns c = c.byte_of.ensures
