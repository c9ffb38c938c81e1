use Rattle.book_write.proofs.Storing.{seal_put}
use Rattle.book_write.proofs.seal.Goals as goal

pub returns : goal.returns
returns c = seal_put _ _ _ c.put_zeros.ensures c.put_check.ensures
