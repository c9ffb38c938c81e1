use Rattle.std.proofs.Common.{rules, arith, ◌≡◌, ◌-◌}
use Rattle.run_queue.proofs.RuleLaws.{no, less_one, ranged_back, ranged_none}
use Rattle.run_queue.proofs.rules.ranged.Goals as goal

pub loop-i-init : goal.loop-i-init
loop-i-init c = let z : c.args.count - 0 ≡ c.args.count = omega arith in (omega arith, λ h. rw z at h)

pub returns-then-batches-at-gt63 : goal.returns-then-batches-at-gt63
returns-then-batches-at-gt63 c = λ e. no e

pub returns-then-batches-at-gt-MOST_CENTS : goal.returns-then-batches-at-gt-MOST_CENTS
returns-then-batches-at-gt-MOST_CENTS c = λ e. no e

pub loop-i-preserved : goal.loop-i-preserved
loop-i-preserved c = (omega arith, λ h. c.loop-i.invariant.1 (ranged_back c.args.batches.now c.loop-i.at (c.args.count - c.loop-i.i) (omega arith) (search rules) (search rules) (rw (less_one c.args.count c.loop-i.i) h)))

pub returns : goal.returns
returns c = λ e. c.loop-i.invariant.1 (ranged_none _ _ _ (omega arith))
