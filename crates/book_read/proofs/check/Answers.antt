use Rattle.std.proofs.lemmas.Result.{err_from_is_err_and}
use Rattle.book_read.proofs.Rules.{length_part, length_short, length_long, streams_fault, banks_fault, total_fault, all_sound}
use Rattle.book_read.proofs.check.Goals as goal
use Rattle.book_read.proofs.check.Goals.{then-blocks-lt2-via-then-blocks-lt2, then-blocks-lt2-via-else-blocks-lt2+then-blocks-gt5}

pub returns-then-book-ne0 : goal.returns-then-book-ne0
returns-then-book-ne0 c = search length_part

pub returns-then-blocks-lt2 : goal.returns-then-blocks-lt2
returns-then-blocks-lt2 c = elim c.then-blocks-lt2.branch [
  | then-blocks-lt2-via-then-blocks-lt2 w ↦ length_short _ w.if-blocks-lt2.true
  | then-blocks-lt2-via-else-blocks-lt2+then-blocks-gt5 w ↦ length_long _ w.if-blocks-gt5.true
]

pub returns-in_err-stream_block : goal.returns-in_err-stream_block
returns-in_err-stream_block c = let p = err_from_is_err_and c.from_residual.result c.from_residual.ensures.1 in rw (p.1, p.2) (streams_fault _ c.if-book-ne0.false c.if-blocks-lt2.false c.if-blocks-gt5.false c.stream_block.ensures c.in_err-stream_block.was)

pub returns-in_err-bank_blocks : goal.returns-in_err-bank_blocks
returns-in_err-bank_blocks c = let p = err_from_is_err_and c.from_residual-in_err-bank_blocks.result c.from_residual-in_err-bank_blocks.ensures.1 in rw (p.1, p.2) (banks_fault _ c.if-book-ne0.false c.if-blocks-lt2.false c.if-blocks-gt5.false c.stream_block.ensures c.in_ok-stream_block.was c.bank_blocks.ensures c.in_err-bank_blocks.was)

pub returns-then-not-total_right : goal.returns-then-not-total_right
returns-then-not-total_right c = total_fault _ c.if-book-ne0.false c.if-blocks-lt2.false c.if-blocks-gt5.false c.stream_block.ensures c.in_ok-stream_block.was c.bank_blocks.ensures c.in_ok-bank_blocks.was c.bank_count.ensures.value c.total_right.ensures c.if-not-total_right.true-raw

pub returns : goal.returns
returns c = all_sound _ c.if-book-ne0.false c.if-blocks-lt2.false c.if-blocks-gt5.false c.stream_block.ensures c.in_ok-stream_block.was c.bank_blocks.ensures c.in_ok-bank_blocks.was c.bank_count.ensures.value c.total_right.ensures c.if-not-total_right.false-raw
