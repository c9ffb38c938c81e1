use Rattle.call_orders.proofs.LetterLaws.{letters_none, letters_new, letters_old}
use Rattle.call_orders.proofs.lettering.letters_with.Goals as goal

-- src/lettering.rt:13:9
pub returns-then-l-eq0 : goal.returns-then-l-eq0
returns-then-l-eq0 c = search letters_none

-- src/lettering.rt:8:1
pub returns-then-k-bank : goal.returns-then-k-bank
returns-then-k-bank c = search letters_new

-- src/lettering.rt:8:1
pub returns-else-k-bank : goal.returns-else-k-bank
returns-else-k-bank c = search letters_old
