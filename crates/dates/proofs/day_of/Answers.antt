use native.Mathlib.Omega.{arith}
use Rattle.dates.proofs.Months.{past_2099, day_zero, past_month, true_date}
use Rattle.dates.proofs.day_of.Goals.{then-day-lt1-via-then-day-lt1, then-day-lt1-via-else-day-lt1+then-days_in-day}
use Rattle.dates.proofs.day_of.Goals as goal

pub returns-then-date-ge1000000 : goal.returns-then-date-ge1000000
returns-then-date-ge1000000 c = search past_2099

pub returns-then-day-lt1 : goal.returns-then-day-lt1
returns-then-day-lt1 c =
    elim c.then-day-lt1.branch [
      | then-day-lt1-via-then-day-lt1 w ↦ day_zero c.args.date (omega arith) (omega arith)
      | then-day-lt1-via-else-day-lt1+then-days_in-day w ↦ past_month c.args.date (omega arith) (omega arith) w.days_in.ensures.value (omega arith)
    ]

pub returns : goal.returns
returns c = search true_date
