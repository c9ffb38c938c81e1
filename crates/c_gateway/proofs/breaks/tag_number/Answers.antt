use Rattle.c_gateway.proofs.breaks.tag_number.Goals as goal

pub returns-in-T20 : goal.returns-in-T20
returns-in-T20 c = rw c.in-T20.is

pub returns-in-T12 : goal.returns-in-T12
returns-in-T12 c = rw c.in-T12.is

pub returns-in-T77E : goal.returns-in-T77E
returns-in-T77E c = rw c.in-T77E.is

pub returns-in-T22A : goal.returns-in-T22A
returns-in-T22A c = rw c.in-T22A.is

pub returns-in-T119 : goal.returns-in-T119
returns-in-T119 c = rw c.in-T119.is

pub returns-in-T16A : goal.returns-in-T16A
returns-in-T16A c = rw c.in-T16A.is

pub returns-in-T171 : goal.returns-in-T171
returns-in-T171 c = rw c.in-T171.is

pub returns-in-T175 : goal.returns-in-T175
returns-in-T175 c = rw c.in-T175.is

pub returns-in-T127 : goal.returns-in-T127
returns-in-T127 c = rw c.in-T127.is

pub returns-in-T32B : goal.returns-in-T32B
returns-in-T32B c = rw c.in-T32B.is

pub returns-in-T113 : goal.returns-in-T113
returns-in-T113 c = rw c.in-T113.is

pub returns-in-T102 : goal.returns-in-T102
returns-in-T102 c = rw c.in-T102.is

pub returns-in-T203 : goal.returns-in-T203
returns-in-T203 c = rw c.in-T203.is

pub returns-in-T21 : goal.returns-in-T21
returns-in-T21 c = rw c.in-T21.is

pub returns-in-T451 : goal.returns-in-T451
returns-in-T451 c = rw c.in-T451.is

pub returns-in-T13E : goal.returns-in-T13E
returns-in-T13E c = rw c.in-T13E.is

pub returns-in-T432 : goal.returns-in-T432
returns-in-T432 c = rw c.in-T432.is
