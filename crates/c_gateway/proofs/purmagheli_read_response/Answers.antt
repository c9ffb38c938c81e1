use Rattle.c_gateway.proofs.Laws.{short_row, long_row}
use Rattle.c_gateway.specs.Responses.{reply_number, reply_words, response_number, response_row}
use Rattle.c_gateway.proofs.purmagheli_read_response.Goals as goal

pub returns-then-row-lt-RESPONSE_WORDS : goal.returns-then-row-lt-RESPONSE_WORDS
unfolding response_number response_row
returns-then-row-lt-RESPONSE_WORDS c = short_row 28 _ c.args.row.now _ c.if-row-lt-RESPONSE_WORDS.true c.number.ensures

pub returns : goal.returns
unfolding response_number response_row
returns c = long_row reply_number reply_words 28 c.args.row.now c.if-row-lt-RESPONSE_WORDS.false c.read_response.ensures c.put_reply.ensures
