use Prim.Native.Nat.{◌*◌, ◌-◌, ◌≤◌}
use Rattle.book_read.specs.Book.{each}
use Rattle.book_write.specs.Closing.{bank_blocks_of, bank_of}
use Rattle.book_write.proofs.Storing.{Storing}
use Rattle.book_write.proofs.put_bank_blocks.Given as goal

abbrev pub invariant-loop-k : goal.invariant-loop-k
invariant-loop-k l = (1 ≤ l.k) × (l.k ≤ l.blocks) × Storing l.initial.out 512 (bank_blocks_of l.blocks 1 (l.blocks - 1) (each (bank_of l.codes l.flags l.balances l.sublimits) 0 l.banks)) l.out (512 * l.k) (bank_blocks_of l.blocks l.k (l.blocks - l.k) (each (bank_of l.codes l.flags l.balances l.sublimits) (20 * (l.k - 1)) (l.banks - 20 * (l.k - 1))))
