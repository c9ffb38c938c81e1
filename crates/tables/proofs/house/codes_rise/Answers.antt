use Rattle.tables.proofs.HouseLaws.{rise_end}
use Rattle.tables.proofs.house.codes_rise.Goals as goal

pub returns : goal.returns
returns c = rise_end _ _ c.loop-i.invariant.1 c.loop-i-test.false
