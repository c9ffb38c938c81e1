use Rattle.call_message.proofs.outcome.BeginLaws.{free_row, first_takeable, first_so}
use borrow.Author.Rules.{rules}
use Rattle.call_message.proofs.outcome.taking.begin.Goals as goal

-- src/taking.rt:139:5
pub begin_at-requires : goal.begin_at-requires
begin_at-requires c = (c.requires.0.below, c.requires.0.ready.table.long, free_row _ _ _ _ _ _ _ _ _ _ _ c.requires.0)

-- src/taking.rt:140:5
pub admit-requires : goal.admit-requires
admit-requires c = (first_takeable _ _ _ _ _ _ _ _ _ _ _ c.requires.0 _ c.activation_word-word.result c.activation_word-word.ensures (search rules) c.begin_at.ensures, c.requires.1)

-- src/taking.rt:114:1
pub returns : goal.returns
returns c = first_so _ _ _ _ _ _ _ _ _ _ _ c.requires.0 _ c.activation_word-word.result c.activation_word-word.ensures (search rules) c.begin_at.ensures _ _ _ _ _ _ _ _ _ _ _ _ c.admit.ensures
