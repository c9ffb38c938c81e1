use Rattle.request_read.specs.whole.Request.{request_at}
use mathlib.Core.Path.{refl}
use Rattle.c_gateway.proofs.Laws.{short_row, long_row}
use Rattle.c_gateway.specs.Requests.{reading_number, reading_words, request_number, request_row}
use Rattle.c_gateway.proofs.purmagheli_read_request.Goals as goal

pub returns-then-row-lt-REQUEST_WORDS : goal.returns-then-row-lt-REQUEST_WORDS
unfolding request_number request_row
returns-then-row-lt-REQUEST_WORDS c = short_row 192 _ c.args.row.now _ c.if-row-lt-REQUEST_WORDS.true c.number.ensures

pub returns : goal.returns
unfolding request_number request_row
returns c = long_row reading_number reading_words 192 c.args.row.now {x = request_at _} c.if-row-lt-REQUEST_WORDS.false refl c.put_request.ensures
