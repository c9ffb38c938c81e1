use mathlib.Core.Path.{refl, sym, ◌∙◌}
use borrow.Author.Tests.{not-false}
use lib.Seq.{length-sets}
use native.Mathlib.Omega.{arith}
use Rattle.book_write.specs.Closing.{blocks_for}
use Rattle.book_write.proofs.Writes.{holding, write_broken, write_short, write_done}
use Rattle.book_write.proofs.write.Goals as goal

pub returns-then-not-rows_hold : goal.returns-then-not-rows_hold
returns-then-not-rows_hold c = write_broken _ _ _ _ _ _ _ c.rows_hold.ensures c.if-not-rows_hold.true-raw

pub overflow_add-blocks : goal.overflow_add-blocks
overflow_add-blocks c = omega (arith, (holding _ _ _ _ _ _ (sym c.rows_hold.ensures ∙ not-false _ c.if-not-rows_hold.false-raw)).few_banks)

pub overflow_mul-blocks : goal.overflow_mul-blocks
overflow_mul-blocks c = omega (arith, (holding _ _ _ _ _ _ (sym c.rows_hold.ensures ∙ not-false _ c.if-not-rows_hold.false-raw)).few_banks)

pub returns-then-out-blocks : goal.returns-then-out-blocks
unfolding blocks_for
returns-then-out-blocks c = write_short _ _ _ _ _ _ _ c.rows_hold.ensures c.if-not-rows_hold.false-raw c.if-out-blocks.true

pub put_stream_block-requires : goal.put_stream_block-requires
unfolding blocks_for
put_stream_block-requires c =
    let h = holding _ _ _ _ _ _ (sym c.rows_hold.ensures ∙ not-false _ c.if-not-rows_hold.false-raw) in
    (h.few_streams, h.in_streams, omega (arith, h.few_banks), omega (arith, h.some_banks))

pub put_bank_blocks-requires : goal.put_bank_blocks-requires
unfolding blocks_for
put_bank_blocks-requires c =
    let h = holding _ _ _ _ _ _ (sym c.rows_hold.ensures ∙ not-false _ c.if-not-rows_hold.false-raw) in record { blocks_value = (refl, h.few_banks, rw c.put_stream_block.ensures (rw length-sets c.if-out-blocks.false)); reaching = record { in_codes = h.in_codes; in_flags = h.in_flags; in_balances = h.in_balances; in_sublimits = h.in_sublimits } }

pub returns : goal.returns
unfolding blocks_for
returns c = write_done _ _ _ _ _ _ _ c.rows_hold.ensures c.if-not-rows_hold.false-raw c.if-out-blocks.false c.put_stream_block.ensures c.put_bank_blocks.ensures
