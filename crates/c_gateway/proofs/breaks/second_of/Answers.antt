use Rattle.c_gateway.proofs.BreakLaws.{by_second}
use Rattle.c_gateway.proofs.breaks.second_of.Goals as goal

pub returns-in-Two : goal.returns-in-Two
returns-in-Two c = search by_second
