use Rattle.c_gateway.specs.Writers.{order_in, order_written, order_left}
use Rattle.c_gateway.proofs.WriterLaws.{order_writes, short_row, none_told, all_told}
use Rattle.c_gateway.proofs.writers.purmagheli_write_request.Goals as goal

pub returns-then-row-lt-REQUEST_WORDS : goal.returns-then-row-lt-REQUEST_WORDS
returns-then-row-lt-REQUEST_WORDS c = let row = c.args.row.now in let out = c.args.out.now in short_row 192 row _ out (order_written (order_in row) out) (order_left (order_in row) out) c.if-row-lt-REQUEST_WORDS.true c.number.ensures

pub returns-then-told-lt-TOLD_WORDS : goal.returns-then-told-lt-TOLD_WORDS
returns-then-told-lt-TOLD_WORDS c = let row = c.args.row.now in let out = c.args.out.now in none_told 192 row _ out (order_written (order_in row) out) (order_left (order_in row) out) c.if-row-lt-REQUEST_WORDS.false c.if-told-lt-TOLD_WORDS.true c.number-then-told-lt-TOLD_WORDS.ensures

pub returns : goal.returns
returns c = let row = c.args.row.now in let out = c.args.out.now in all_told 192 row _ out (order_written (order_in row) out) (order_left (order_in row) out) c.if-row-lt-REQUEST_WORDS.false c.if-told-lt-TOLD_WORDS.false (order_writes _ _ c.order.ensures c.write_request.ensures) c.tell.ensures
