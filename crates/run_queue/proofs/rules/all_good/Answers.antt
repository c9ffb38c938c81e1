use borrow.Author.Rules.{rules}
use borrow.Author.Tests.{not-false}
use Rattle.run_queue.proofs.RuleLaws.{no, good_back, good_none}
use Rattle.run_queue.proofs.rules.all_good.Goals as goal

pub loop-i-init : goal.loop-i-init
loop-i-init c = λ h. h

pub returns-then-not-good : goal.returns-then-not-good
returns-then-not-good c = λ e. no e

pub loop-i-preserved : goal.loop-i-preserved
loop-i-preserved c = λ h. c.loop-i.invariant (good_back c.args.batches.now c.args.queue.now c.args.waiting c.loop-i.i (search rules) (search rules) (c.good.ensures (not-false _ c.if-not-good.false-raw)) h)

pub returns : goal.returns
returns c = λ e. c.loop-i.invariant (search (rules, good_none))
