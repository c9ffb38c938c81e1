use Rattle.std.proofs.Common.{arith, ◌≡◌, ◌-◌}
use Rattle.run_queue.proofs.RuleLaws.{no, less_one, apart_back, apart_none}
use Rattle.run_queue.proofs.rules.apart.Goals as goal

pub loop-i-init : goal.loop-i-init
loop-i-init c = let z : c.args.count - 0 ≡ c.args.count = omega arith in (omega arith, λ h. rw z at h)

pub returns-then-batches-at : goal.returns-then-batches-at
returns-then-batches-at c = λ e. no e

pub loop-i-preserved : goal.loop-i-preserved
loop-i-preserved c = (omega arith, λ h. c.loop-i.invariant.1 (apart_back c.args.batches.now c.loop-i.at (c.args.count - c.loop-i.i) (omega arith) c.args.bank c.if-batches-at.false (rw (less_one c.args.count c.loop-i.i) h)))

pub returns : goal.returns
returns c = λ e. c.loop-i.invariant.1 (apart_none _ _ _ _ (omega arith))
