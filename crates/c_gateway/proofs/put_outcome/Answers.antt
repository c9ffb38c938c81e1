use Rattle.c_gateway.proofs.put_outcome.Goals as goal

pub returns-in-Settled : goal.returns-in-Settled
returns-in-Settled c = rw c.in-Settled.is c.put_status.ensures

pub returns-in-Rejected : goal.returns-in-Rejected
returns-in-Rejected c = rw c.in-Rejected.is c.put_status-in-Rejected.ensures
