use Rattle.c_gateway.proofs.BreakLaws.{by_fault}
use Rattle.c_gateway.proofs.breaks.first_tag.Goals as goal

pub returns-in-Wrong : goal.returns-in-Wrong
returns-in-Wrong c = search by_fault
