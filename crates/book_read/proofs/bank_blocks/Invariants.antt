use Prim.Native.Nat.{◌-◌}
use mathlib.Core.Path.{◌≡◌}
use Rattle.book_read.specs.Block.{first_broken}
use Rattle.book_read.specs.Book.{bank_blocks}
use Rattle.book_read.proofs.bank_blocks.Given as goal

abbrev pub invariant-loop-k : goal.invariant-loop-k
invariant-loop-k l = first_broken (bank_blocks l.s l.blocks l.k (l.blocks - l.k)) ≡ first_broken (bank_blocks l.s l.blocks 1 (l.blocks - 1))
