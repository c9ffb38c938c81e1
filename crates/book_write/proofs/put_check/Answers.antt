use Rattle.book_write.proofs.Storing.{check_put}
use Rattle.book_write.proofs.put_check.Goals as goal

pub returns : goal.returns
returns c = check_put _ _ c.block_sum-sum.ensures c.put_little.ensures
