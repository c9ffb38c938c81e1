use Rattle.c_gateway.proofs.Laws.{accepted_row}
use mathlib.Core.Path.{refl}
use Rattle.c_gateway.proofs.put_accepted.Goals as goal

pub returns : goal.returns
returns c =
    let args = c.args in
    (refl, accepted_row args.row.now args.head args.terms args.count args.places.now c.put_head.ensures c.put_terms.ensures c.put_item.ensures c.put_words.ensures)
