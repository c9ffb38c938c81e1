use Rattle.c_gateway.proofs.Laws.{batch_row}
use Rattle.c_gateway.proofs.put_batch.Goals as goal

pub returns : goal.returns
returns c =
    let a = c.args in
    batch_row a.row.now a.p a.stream a.bin c.put_field.ensures c.put_code.ensures
