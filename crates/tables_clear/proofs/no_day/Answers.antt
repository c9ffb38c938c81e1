use Rattle.tables_clear.proofs.Laws.{no_day}
use Rattle.tables_clear.proofs.no_day.Goals as goal

pub returns : goal.returns
returns c = no_day
