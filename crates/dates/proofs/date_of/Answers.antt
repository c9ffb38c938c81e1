use Rattle.dates.proofs.Months.{no_date_lem, date_made}
use Rattle.dates.proofs.date_of.Goals as goal

pub returns-then-day-ge36525 : goal.returns-then-day-ge36525
returns-then-day-ge36525 c = search no_date_lem

pub returns : goal.returns
returns c = search date_made
