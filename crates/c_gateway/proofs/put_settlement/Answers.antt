use Rattle.c_gateway.proofs.Laws.{settlement_row}
use mathlib.Core.Path.{refl}
use Rattle.c_gateway.proofs.put_settlement.Goals as goal

pub returns : goal.returns
returns c =
    let a = c.args in
    (refl, settlement_row a.row.now a.p a.s c.put_number.ensures c.put_batch.ensures c.put_outcome.ensures)
