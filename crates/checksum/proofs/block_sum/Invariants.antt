use Rattle.std.proofs.Common.{◌+◌, ◌-◌, ◌*◌, ◌≤◌, length}
use Rattle.checksum.proofs.Laws.{Going}
use Rattle.checksum.proofs.block_sum.Given as goal

abbrev pub invariant-loop-i : goal.invariant-loop-i
invariant-loop-i l = Going l.s l.at l.sum (127 - l.i) (l.at + 4 * l.i) × (l.at + 508 ≤ length l.s)
