use native.Mathlib.Omega.{arith}
use Rattle.dates.proofs.Months.{before_small, one_more, all_before}
use Rattle.dates.proofs.days_before.Goals as goal

pub overflow_add-days : goal.overflow_add-days
overflow_add-days c = omega (arith, before_small c.args.year c.loop-m.m)

pub loop-m-preserved : goal.loop-m-preserved
loop-m-preserved c = search one_more

pub returns : goal.returns
returns c =
    let l = c.loop-m in
    record { value = all_before c.args.year l.m c.args.month (omega arith) (omega arith) l.invariant; small = omega (arith, before_small c.args.year l.m) }
