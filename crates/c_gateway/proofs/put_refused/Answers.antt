use Rattle.c_gateway.proofs.Laws.{refused_row}
use Rattle.c_gateway.proofs.put_refused.Goals as goal

pub returns : goal.returns
returns c =
    let a = c.args in
    (c.number.ensures, refused_row _ a.b a.h c.reached_number.ensures c.put_break.ensures c.put_item.ensures c.put_address.ensures)
