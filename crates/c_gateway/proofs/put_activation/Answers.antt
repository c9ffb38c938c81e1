use Rattle.c_gateway.proofs.put_activation.Goals as goal

pub returns-in-AtOnce : goal.returns-in-AtOnce
returns-in-AtOnce c = rw c.in-AtOnce.is c.put_field.ensures

pub returns-in-Minute : goal.returns-in-Minute
returns-in-Minute c = rw c.in-Minute.is c.put_field-in-Minute.ensures
