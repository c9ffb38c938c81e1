use Rattle.c_gateway.proofs.put_answer.Goals as goal

pub returns-in-Recalled : goal.returns-in-Recalled
returns-in-Recalled c = rw c.in-Recalled.is c.put_status.ensures

pub returns-in-Kept : goal.returns-in-Kept
returns-in-Kept c = rw c.in-Kept.is c.put_status-in-Kept.ensures
