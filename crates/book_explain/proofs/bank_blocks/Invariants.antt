use Rattle.book_explain.specs.Faults.{first_failed, bank_block_tests}
use mathlib.Core.Path.{◌≡◌}
use Prim.Native.Nat.{◌-◌}
use Rattle.book_explain.proofs.bank_blocks.Given as goal

abbrev pub invariant-loop-k : goal.invariant-loop-k
invariant-loop-k l = first_failed (bank_block_tests l.s l.blocks l.k (l.blocks - l.k)) ≡ first_failed (bank_block_tests l.s l.blocks 1 (l.blocks - 1))
