use Rattle.std.proofs.Common.{◌-◌}
use Rattle.tables_rules.proofs.entry_rules.ChainLaws.{Walked}
use Rattle.tables_rules.proofs.entry_rules.chains.unlike_chain.Given as goal

abbrev pub invariant-loop-k : goal.invariant-loop-k
invariant-loop-k l = Walked l.t l.n l.today l.high l.low l.i l.k

abbrev pub decreases-loop-k : goal.decreases-loop-k
decreases-loop-k l = l.n - l.k
