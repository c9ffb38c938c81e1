use Rattle.c_gateway.proofs.WriterLaws.{tell_unfit, tell_end}
use Rattle.c_gateway.proofs.writers.tell.Goals as goal

pub returns-in-Err : goal.returns-in-Err
returns-in-Err c = tell_unfit _ _ c.in-Err.is c.number.ensures

pub returns-in-Ok : goal.returns-in-Ok
returns-in-Ok c = tell_end _ _ c.in-Ok.is
