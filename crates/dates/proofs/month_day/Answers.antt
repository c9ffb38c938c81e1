use native.Mathlib.Omega.{arith}
use Rattle.dates.proofs.Months.{first_month, month_found, month_next, month_none}
use Rattle.dates.proofs.month_day.Goals as goal

pub loop-month-init : goal.loop-month-init
loop-month-init c = first_month c.args.year c.args.day

pub returns-then-place-days : goal.returns-then-place-days
returns-then-place-days c =
    let l = c.loop-month in
    record {
      value = month_found c.args.year l.month l.place l.invariant c.days_in-days.ensures.value (omega arith) (omega arith);
      small = omega (arith, c.days_in-days.ensures.small);
    }

pub loop-month-preserved : goal.loop-month-preserved
loop-month-preserved c =
    let l = c.loop-month in
    month_next c.args.year l.month l.place l.invariant c.days_in-days.ensures.value (omega arith) (omega arith)

pub returns : goal.returns
returns c =
    let l = c.loop-month in
    record { value = month_none c.args.year l.month l.place l.invariant (omega arith) (omega arith); small = omega arith }
