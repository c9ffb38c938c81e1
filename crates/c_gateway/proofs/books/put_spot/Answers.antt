use Rattle.c_gateway.proofs.FaultLaws.{spot_row}
use Rattle.c_gateway.proofs.books.put_spot.Goals as goal

pub returns : goal.returns
returns c = spot_row c.args.row.now c.args.p c.flaw_number.ensures c.put_words.ensures c.refusal.ensures c.number.ensures
