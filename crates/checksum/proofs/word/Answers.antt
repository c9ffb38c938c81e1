use Rattle.std.proofs.Common.{◌∙◌, get_or-drop, add-zero}
use Rattle.checksum.specs.Sum.{word_of}
use Rattle.checksum.proofs.word.Goals as goal

pub returns : goal.returns
unfolding word_of
returns c = c.from_le_bytes.ensures ∙ simp (get_or-drop, add-zero)
