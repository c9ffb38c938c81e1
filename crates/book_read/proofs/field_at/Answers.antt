use Rattle.book_read.proofs.Filling.{field_code, field_flags, field_balance, field_sublimit}
use Rattle.book_read.proofs.field_at.Goals as goal

pub returns-in-Code : goal.returns-in-Code
returns-in-Code c = search field_code

pub returns-in-Flags : goal.returns-in-Flags
returns-in-Flags c = search field_flags

pub returns-in-Balance : goal.returns-in-Balance
returns-in-Balance c = search field_balance

pub returns-in-Sublimit : goal.returns-in-Sublimit
returns-in-Sublimit c = search field_sublimit
