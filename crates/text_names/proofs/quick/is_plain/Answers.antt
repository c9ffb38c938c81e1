use Rattle.text_names.proofs.quick.Laws.{plain_short, plain_long}
use Rattle.text_names.proofs.quick.is_plain.Goals as goal

pub returns-then-end-ne0 : goal.returns-then-end-ne0
returns-then-end-ne0 c = λ e. search plain_short

pub returns-then-are_codes : goal.returns-then-are_codes
returns-then-are_codes c = λ e. search plain_long
