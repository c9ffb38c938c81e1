use Rattle.c_gateway.proofs.Laws.{status_row}
use Rattle.c_gateway.proofs.put_status.Goals as goal

pub returns : goal.returns
returns c =
    let a = c.args in
    status_row a.row.now a.p a.status a.first a.second c.put_field.ensures c.put_field-2.ensures
