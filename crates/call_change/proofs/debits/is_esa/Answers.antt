use Rattle.chars.proofs.Laws.{is_member, not_member}
use Rattle.chars.specs.Words.{bytes}
use Rattle.call_change.proofs.debits.is_esa.Goals as goal

pub returns-in-65 : goal.returns-in-65
returns-in-65 c = simp (is_member (bytes "ADP") _ c.in-65.is)

pub returns-in_default : goal.returns-in_default
returns-in_default c = simp (not_member (bytes "ADP") _ c.in_default.in_default-own.rest.1)
