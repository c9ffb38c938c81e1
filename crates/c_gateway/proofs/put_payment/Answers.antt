use Rattle.c_gateway.proofs.Laws.{payment_row}
use Rattle.c_gateway.proofs.put_payment.Goals as goal

pub returns : goal.returns
returns c =
    let a = c.args in
    payment_row a.row.now a.at a.p c.put_item.ensures c.put_item-2.ensures c.put_item-3.ensures c.put_item-4.ensures
