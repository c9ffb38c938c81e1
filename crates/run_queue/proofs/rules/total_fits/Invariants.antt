use Rattle.std.proofs.Common.{◌≡◌, ◌+◌, ◌≤◌, drop}
use Rattle.settle.specs.Rules.{sum}
use Rattle.run_queue.proofs.rules.total_fits.Given as goal

abbrev pub invariant-loop-balance : goal.invariant-loop-balance
invariant-loop-balance l = (l.total ≤ 6400000000000000) × (sum l.balances ≡ l.total + sum (drop l.balance-index l.balances))
