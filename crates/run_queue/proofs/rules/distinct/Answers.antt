use Rattle.std.proofs.Common.{rules, arith, ◌≡◌, ◌-◌}
use borrow.Author.Tests.{not-false}
use Rattle.run_queue.proofs.RuleLaws.{no, less_one, distinct_back, distinct_none}
use Rattle.run_queue.proofs.rules.distinct.Goals as goal

pub loop-i-init : goal.loop-i-init
loop-i-init c = let z : c.args.count - 0 ≡ c.args.count = omega arith in (omega arith, λ h. rw z at h)

pub returns-then-not-apart : goal.returns-then-not-apart
returns-then-not-apart c = λ e. no e

pub loop-i-preserved : goal.loop-i-preserved
loop-i-preserved c = (omega arith, λ h. c.loop-i.invariant.1 (distinct_back c.args.batches.now c.loop-i.at (c.args.count - c.loop-i.i) (omega arith) (c.apart.ensures (not-false _ c.if-not-apart.false-raw)) (rw (less_one c.args.count c.loop-i.i) h)))

pub returns : goal.returns
returns c = λ e. c.loop-i.invariant.1 (distinct_none _ _ _ (omega arith))
