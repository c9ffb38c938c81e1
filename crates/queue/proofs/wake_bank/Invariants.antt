use Rattle.std.proofs.Common.{◌≡◌, ◌++◌, map, take, drop, eqb}
use Rattle.queue.specs.Memory.{wake}
use Rattle.queue.proofs.wake_bank.Given as goal

abbrev pub invariant-loop-held : goal.invariant-loop-held
invariant-loop-held l = map (wake (eqb l.bank)) l.initial.memory ≡ take l.held-index l.memory ++ map (wake (eqb l.bank)) (drop l.held-index l.memory)
