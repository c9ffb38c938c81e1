use Rattle.tables_rules.proofs.entry_rules.ChainLaws.{walk_start, walk_met, walk_done, walk_on, walk_less}
use Rattle.tables_rules.proofs.entry_rules.chains.unlike_chain.Goals as goal

pub loop-k-init : goal.loop-k-init
loop-k-init c = search walk_start

pub returns-then-same : goal.returns-then-same
returns-then-same c = search walk_met

pub loop-k-smaller : goal.loop-k-smaller
loop-k-smaller c = search walk_less

pub loop-k-preserved : goal.loop-k-preserved
loop-k-preserved c = search walk_on

pub returns : goal.returns
returns c = search walk_done
