use Rattle.book_write.proofs.Storing.{stream_put}
use Rattle.book_write.proofs.put_stream.Goals as goal

pub returns : goal.returns
returns c = stream_put _ _ _ c.short_code.ensures c.bytes.ensures
