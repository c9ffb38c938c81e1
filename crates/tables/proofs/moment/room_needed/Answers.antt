use Rattle.tables.proofs.MomentLaws.{closing_room}
use Rattle.tables.proofs.moment.room_needed.Goals as goal

pub returns-in-ClosingBook : goal.returns-in-ClosingBook
returns-in-ClosingBook c = closing_room _ _ _ c.requires.1 c.in-ClosingBook.is
