use Rattle.c_gateway.proofs.Laws.{recall_row}
use mathlib.Core.Path.{refl}
use Rattle.c_gateway.proofs.put_recall.Goals as goal

pub returns : goal.returns
returns c =
    let a = c.args in
    (refl, recall_row a.row.now a.p a.r c.nothing.ensures c.put_number.ensures c.put_batch.ensures c.put_answer.ensures)
