use Rattle.c_gateway.specs.Writers.{response_written, response_left}
use Rattle.c_gateway.proofs.WriterLaws.{short_row, none_told, all_told}
use Rattle.c_gateway.proofs.writers.purmagheli_write_response.Goals as goal

pub returns-then-row-lt-RESPONSE_WORDS : goal.returns-then-row-lt-RESPONSE_WORDS
returns-then-row-lt-RESPONSE_WORDS c = let row = c.args.row.now in let out = c.args.out.now in short_row 28 row _ out (response_written row out) (response_left row out) c.if-row-lt-RESPONSE_WORDS.true c.number.ensures

pub returns-then-told-lt-TOLD_WORDS : goal.returns-then-told-lt-TOLD_WORDS
returns-then-told-lt-TOLD_WORDS c = let row = c.args.row.now in let out = c.args.out.now in none_told 28 row _ out (response_written row out) (response_left row out) c.if-row-lt-RESPONSE_WORDS.false c.if-told-lt-TOLD_WORDS.true c.number-then-told-lt-TOLD_WORDS.ensures

pub returns : goal.returns
returns c = let row = c.args.row.now in let out = c.args.out.now in all_told 28 row _ out (response_written row out) (response_left row out) c.if-row-lt-RESPONSE_WORDS.false c.if-told-lt-TOLD_WORDS.false c.write_response.ensures c.tell.ensures
