use Prim.Native.Nat.{min, ◌/◌}
use Rattle.book_write.proofs.Writes.{reach_part}
use Prim.Native.Nat.{◌+◌, ◌*◌, ◌-◌}
use mathlib.Core.Path.{◌≡◌}
use native.Mathlib.Omega.{arith}
use Rattle.book_write.specs.Closing.{blocks_for}
use Rattle.book_write.proofs.Storing.{storing_start, storing_done}
use Rattle.book_write.proofs.Sealing.{storing_block, blocks_none}
use Rattle.book_write.proofs.put_bank_blocks.Goals as goal

pub loop-k-init : goal.loop-k-init
unfolding blocks_for
loop-k-init c =
    let banks = c.args.banks in
    let same : banks - 0 ≡ banks = omega arith in
    (omega arith, omega (arith, c.requires.blocks_value.0), rw same (storing_start _ _ _))

pub overflow_mul-from : goal.overflow_mul-from
unfolding blocks_for
overflow_mul-from c = omega (arith, c.requires.blocks_value.0)

pub overflow_sub-banks : goal.overflow_sub-banks
unfolding blocks_for
overflow_sub-banks c = omega (arith, c.requires.blocks_value.0)

pub put_bank_block-requires : goal.put_bank_block-requires
unfolding blocks_for
put_bank_block-requires c =
    let k = c.loop-k.k in
    let banks = c.args.banks in
    let is : c.args.blocks ≡ (banks + 19) / 20 + 1 = c.requires.blocks_value.0 in
    let part : c.in_block.result ≡ min 20 (banks - 20 * (k - 1)) = c.in_block.ensures in record { blocks_bound = omega (arith, c.loop-k.invariant.2.size); reaching = reach_part (20 * (k - 1) + c.in_block.result) (omega arith) c.requires.reaching }

pub loop-k-preserved : goal.loop-k-preserved
loop-k-preserved c =
    let k = c.loop-k.k in
    let banks = c.args.banks in
    let n = c.in_block.result in
    let part : n ≡ min 20 (banks - 20 * (k - 1)) = c.in_block.ensures in (
      omega arith,
      omega arith,
      storing_block c.args.blocks k _ (20 * (k - 1)) (banks - 20 * (k - 1)) n (20 * (k + 1 - 1)) (banks - 20 * (k + 1 - 1))
          c.loop-k.invariant.2 (omega arith) (λ h. omega arith) (λ h. omega arith) c.put_bank_block.ensures (omega arith) (omega arith),
    )

pub shape_of-out : goal.shape_of-out
shape_of-out c = c.loop-k.invariant.2.size

pub returns : goal.returns
returns c = storing_done c.loop-k.invariant.2 (blocks_none _ c.loop-k.k _ (omega arith))
