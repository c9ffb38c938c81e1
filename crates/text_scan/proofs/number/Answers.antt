use native.Mathlib.Omega.{arith}
use mathlib.Core.Path.{◌≡◌}
use Rattle.text_scan.specs.Scan.{most}
use Rattle.text_scan.proofs.Laws.{number_long, number_from, number_all, number_not, number_short, most_id}
use Rattle.text_scan.proofs.number.Goals as goal

pub returns-then-n-gt18-clause-value : goal.returns-then-n-gt18-clause-value
returns-then-n-gt18-clause-value c = search number_long

pub returns-then-saturating_sub-n-clause-value : goal.returns-then-saturating_sub-n-clause-value
returns-then-saturating_sub-n-clause-value c =
    let a = c.args in number_short a.s.now a.at a.n (omega arith) (omega (arith, c.saturating_sub.ensures, c.if-saturating_sub-n.true))

pub overflow_sub-run : goal.overflow_sub-run
overflow_sub-run c = let a = c.args in number_from a.s.now a.at a.n (omega arith) c.digits-run.ensures.value

pub returns-then-run-at : goal.returns-then-run-at
returns-then-run-at c = let a = c.args in record {
  value = number_all a.s.now a.at a.n (omega arith) c.digits-run.ensures.value c.if-run-at.true;
  small = let e : most a.n ≡ a.n = most_id a.n (omega arith) in rw e at c.digits-run.ensures.small;
}

pub returns-else-run-at-clause-value : goal.returns-else-run-at-clause-value
returns-else-run-at-clause-value c = let a = c.args in number_not a.s.now a.at a.n (omega arith) c.digits-run.ensures.value c.if-run-at.false
