use Rattle.c_gateway.proofs.FaultLaws.{whole_row, broken_row}
use Rattle.c_gateway.proofs.books.put_finding.Goals as goal

pub returns-in-Ok : goal.returns-in-Ok
returns-in-Ok c = whole_row c.args.row.now c.args.f c.in-Ok.is c.put_words.ensures

pub returns-in-Err : goal.returns-in-Err
returns-in-Err c = broken_row c.args.row.now c.args.f c.in-Err.is c.put_spot.ensures
