use Rattle.c_gateway.proofs.Laws.{sound_book, faulty_book}
use Rattle.c_gateway.proofs.purmagheli_check_book.Goals as goal

pub returns-in-Ok : goal.returns-in-Ok
returns-in-Ok c = search sound_book

pub returns-in-Err : goal.returns-in-Err
returns-in-Err c = search faulty_book
