use Rattle.std.proofs.Common.{◌≡◌, ◌++◌, map, take, drop}
use Rattle.queue.specs.Memory.{wake, is_marked}
use Rattle.queue.proofs.wake_marked.Given as goal

abbrev pub invariant-loop-held : goal.invariant-loop-held
invariant-loop-held l = map (wake (is_marked l.marks)) l.initial.memory ≡ take l.held-index l.memory ++ map (wake (is_marked l.marks)) (drop l.held-index l.memory)
