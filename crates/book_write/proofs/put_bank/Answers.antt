use Rattle.book_write.proofs.Storing.{bank_put}
use Rattle.book_write.proofs.put_bank.Goals as goal

pub returns : goal.returns
returns c = bank_put _ _ _ c.short_code.ensures c.bytes.ensures c.put_little.ensures c.put_little-2.ensures
