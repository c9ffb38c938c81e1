use borrow.Author.Rules.{rules}
use Rattle.tables.proofs.HouseLaws.{climb_not, climb_on}
use Rattle.tables.proofs.house.streams_rise.Goals as goal

pub returns-then-row-i : goal.returns-then-row-i
returns-then-row-i c = search (rules, climb_not)

pub loop-i-preserved : goal.loop-i-preserved
loop-i-preserved c = search (rules, climb_on)
