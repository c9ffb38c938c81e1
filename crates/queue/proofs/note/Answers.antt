use Rattle.queue.proofs.TurnLaws.{note_omitted, note_failed, note_passed}
use borrow.Author.Rules.{rules}
use Rattle.queue.proofs.note.Goals as goal

pub returns-in-Omitted : goal.returns-in-Omitted
returns-in-Omitted c = search (rules, note_omitted)

pub returns-in-Failed : goal.returns-in-Failed
returns-in-Failed c = search (rules, note_failed)

pub returns-in-Passed : goal.returns-in-Passed
returns-in-Passed c = search (rules, note_passed)
