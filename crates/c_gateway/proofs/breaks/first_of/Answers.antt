use Rattle.c_gateway.proofs.BreakLaws.{by_first}
use Rattle.c_gateway.proofs.breaks.first_of.Goals as goal

pub returns-in-Two : goal.returns-in-Two
returns-in-Two c = search by_first
