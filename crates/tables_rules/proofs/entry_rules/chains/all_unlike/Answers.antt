use Rattle.std.proofs.Common.{rules}
use Rattle.tables_rules.proofs.entry_rules.ChainLaws.{under_start, under_end, under_chained, under_kept, under_skip, under_not, under_on}
use Rattle.tables_rules.proofs.entry_rules.chains.all_unlike.Goals as goal

pub loop-i-init : goal.loop-i-init
loop-i-init c = search under_start

pub loop-i-preserved-then-not-kept : goal.loop-i-preserved-then-not-kept
loop-i-preserved-then-not-kept c = search under_skip

pub enter-requires : goal.enter-requires
enter-requires c = let a = c.args in let l = c.loop-i in record { t_len = search rules; first_len = search rules; i_value = (under_kept a.t.now a.n a.today l.first l.next l.i c.loop-i-test.true l.invariant c.kept.ensures c.if-not-kept.false-raw, search under_chained) }

pub returns-then-not-enter : goal.returns-then-not-enter
returns-then-not-enter c = search under_not

pub loop-i-preserved : goal.loop-i-preserved
loop-i-preserved c = search under_on

pub returns : goal.returns
returns c = search under_end
