use Rattle.std.proofs.lemmas.Result.{err_from_is_err_and}
use Rattle.book_explain.proofs.Failing.{length_part, length_short, length_long, streams_broken, banks_broken, total_told}
use Rattle.book_explain.proofs.find.Goals as goal
use Rattle.book_explain.proofs.find.Goals.{then-book-ne0-via-then-book-ne0, then-book-ne0-via-else-book-ne0+then-blocks-lt2, then-book-ne0-via-else-book-ne0+else-blocks-lt2+then-blocks-gt5}

pub returns-then-book-ne0 : goal.returns-then-book-ne0
returns-then-book-ne0 c = elim c.then-book-ne0.branch [
  | then-book-ne0-via-then-book-ne0 w ↦ length_part _ w.if-book-ne0.true
  | then-book-ne0-via-else-book-ne0+then-blocks-lt2 w ↦ length_short _ w.if-blocks-lt2.true
  | then-book-ne0-via-else-book-ne0+else-blocks-lt2+then-blocks-gt5 w ↦ length_long _ w.if-blocks-gt5.true
]

pub returns-in_err-stream_block : goal.returns-in_err-stream_block
returns-in_err-stream_block c = let p = err_from_is_err_and c.from_residual.result c.from_residual.ensures.1 in rw (p.1, p.2) (streams_broken _ c.if-book-ne0.false c.if-blocks-lt2.false c.if-blocks-gt5.false c.stream_block.ensures c.in_err-stream_block.was)

pub returns-in_err-bank_blocks : goal.returns-in_err-bank_blocks
returns-in_err-bank_blocks c = let p = err_from_is_err_and c.from_residual-in_err-bank_blocks.result c.from_residual-in_err-bank_blocks.ensures.1 in rw (p.1, p.2) (banks_broken _ c.if-book-ne0.false c.if-blocks-lt2.false c.if-blocks-gt5.false c.stream_block.ensures c.in_ok-stream_block.was c.bank_blocks.ensures c.in_err-bank_blocks.was)

pub returns : goal.returns
returns c = total_told _ c.if-book-ne0.false c.if-blocks-lt2.false c.if-blocks-gt5.false c.stream_block.ensures c.in_ok-stream_block.was c.bank_blocks.ensures c.in_ok-bank_blocks.was c.bank_count.ensures.value c.total_right-total.ensures c.test.ensures
