use Rattle.text_values.specs.Letters.{is_status}
use Rattle.chars.proofs.Laws.{is_member, not_member}
use Rattle.chars.specs.Words.{bytes}
use Rattle.text_values.proofs.is_status.Goals as goal

pub returns-in-65 : goal.returns-in-65
unfolding is_status
returns-in-65 c = simp (is_member (bytes " ADP") _ c.in-65.is)

pub returns-in_default : goal.returns-in_default
unfolding is_status
returns-in_default c = simp (not_member (bytes " ADP") _ c.in_default.in_default-own.rest.1)
