use Rattle.book_write.proofs.Sealing.{bank_block_put}
use Rattle.book_write.proofs.put_bank_block.Goals as goal

pub returns : goal.returns
returns c = bank_block_put _ _ _ _ _ _ c.requires.blocks_bound.2 c.requires.blocks_bound.3 c.bytes.ensures c.put_banks.ensures c.seal.ensures
