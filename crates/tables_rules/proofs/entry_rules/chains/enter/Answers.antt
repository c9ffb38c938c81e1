use Rattle.tables_rules.proofs.entry_rules.ChainLaws.{chain_first, enter_not, enter_on}
use Rattle.std.proofs.Common.{rules}
use Rattle.tables_rules.proofs.entry_rules.chains.enter.Goals as goal

pub unlike_chain-requires : goal.unlike_chain-requires
unlike_chain-requires c = let a = c.args in record { t_len = search rules; first = (chain_first a.t.now a.n a.today a.first.now a.next.now a.i c.slot-s.result c.wide-from.result c.requires.i_value.1 c.slot-s.ensures.0 c.slot-s.ensures.1 c.wide-from.ensures, search rules) }

pub returns-then-not-unlike_chain : goal.returns-then-not-unlike_chain
returns-then-not-unlike_chain c = search enter_not

pub returns : goal.returns
returns c = search enter_on
