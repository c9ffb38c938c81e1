use native.Mathlib.Omega.{arith}
use Rattle.book_read.proofs.Filling.{each_length}
use Rattle.tables.proofs.HouseLaws.{house_of, house_gives}
use Rattle.tables.proofs.house.house_right.Goals as goal

pub banks_right-requires : goal.banks_right-requires
banks_right-requires c = grind (arith, each_length)

pub returns-then-zero_past : goal.returns-then-zero_past
returns-then-zero_past c = grind (arith, house_of, house_gives)

pub returns-else-zero_past : goal.returns-else-zero_past
returns-else-zero_past c = grind (arith, house_gives)
