use Rattle.tables_rules.proofs.entry_rules.ChainLaws.{Under}
use Rattle.tables_rules.proofs.entry_rules.chains.all_unlike.Given as goal

abbrev pub invariant-loop-i : goal.invariant-loop-i
invariant-loop-i l = Under l.t l.n l.today l.first l.next l.i
