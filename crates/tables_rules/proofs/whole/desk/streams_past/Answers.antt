use Rattle.tables_rules.proofs.whole.DayLaws.{past_all}
use Rattle.std.proofs.Common.{rules}
use Rattle.tables_rules.proofs.whole.desk.streams_past.Goals as goal

pub returns : goal.returns
returns c = record { says = search past_all; row_len = search rules }
