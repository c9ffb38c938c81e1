use Rattle.c_gateway.proofs.BreakLaws.{report_1}
use Rattle.c_gateway.proofs.breaks.report_of.Goals as goal

pub returns : goal.returns
returns c = search report_1
