use Rattle.book_write.proofs.Sealing.{stream_block_put}
use Rattle.book_write.proofs.put_stream_block.Goals as goal

pub returns : goal.returns
returns c = stream_block_put _ _ _ _ _ c.requires.0 c.requires.3 c.bytes.ensures c.date_of.ensures c.digits.ensures c.bytes-2.ensures c.put_streams.ensures c.seal.ensures
