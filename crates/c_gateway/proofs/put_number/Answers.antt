use Rattle.c_gateway.proofs.Laws.{number_row}
use Rattle.c_gateway.proofs.put_number.Goals as goal

pub returns : goal.returns
returns c =
    let a = c.args in
    number_row a.row.now a.p a.number a.kind a.reference c.put_field.ensures c.put_field-2.ensures c.put_code.ensures
