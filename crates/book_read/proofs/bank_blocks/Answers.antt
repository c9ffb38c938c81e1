use Rattle.std.proofs.lemmas.Result.{err_from_is_err_and}
use native.Mathlib.Omega.{arith}
use mathlib.Core.Path.{◌∙◌}
use Rattle.book_read.proofs.Rules.{blocks_done, blocks_on, blocks_fault}
use Rattle.book_read.proofs.bank_blocks.Goals as goal

pub returns-in_err-bank_block : goal.returns-in_err-bank_block
returns-in_err-bank_block c = let p = err_from_is_err_and c.from_residual.result c.from_residual.ensures.1 in rw (p.1, p.2) (blocks_fault _ _ _ (omega arith) c.bank_block.ensures c.in_err-bank_block.was ∙ c.loop-k.invariant)

pub loop-k-preserved : goal.loop-k-preserved
loop-k-preserved c = blocks_on _ _ _ (omega arith) c.bank_block.ensures c.in_ok-bank_block.was ∙ c.loop-k.invariant

pub returns : goal.returns
returns c = blocks_done _ _ _ (omega arith) ∙ c.loop-k.invariant
