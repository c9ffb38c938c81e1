use Rattle.tables_rules.proofs.entry_rules.ChainLaws.{chain_none}
use Rattle.std.proofs.Common.{rules}
use Rattle.tables_rules.proofs.entry_rules.chains.entries_once.Goals as goal

pub all_unlike-requires : goal.all_unlike-requires
all_unlike-requires c = record { t_len = search rules; first_len = search rules; chained = search chain_none }
