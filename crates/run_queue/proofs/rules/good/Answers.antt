use borrow.Author.Tests.{not-false}
use Rattle.run_queue.proofs.RuleLaws.{no}
use borrow.Author.Rules.{rules}
use Rattle.run_queue.proofs.rules.good.Goals as goal

pub returns-then-batches : goal.returns-then-batches
returns-then-batches c = λ e. no e

pub returns-then-place-ge-LIVE : goal.returns-then-place-ge-LIVE
returns-then-place-ge-LIVE c = λ e. no e

pub returns-then-count-gt100 : goal.returns-then-count-gt100
returns-then-count-gt100 c = λ e. no e

pub returns-then-not-ranged : goal.returns-then-not-ranged
returns-then-not-ranged c = λ e. no e

pub returns-then-not-distinct : goal.returns-then-not-distinct
returns-then-not-distinct c = λ e. no e

pub even-requires : goal.even-requires
even-requires c = (search rules, search rules, c.ranged.ensures (not-false _ c.if-not-ranged.false-raw))

pub returns : goal.returns
returns c = λ e. record {
  t_long = search rules;
  placed = search rules;
  few = search rules;
  ranged = c.ranged.ensures (not-false _ c.if-not-ranged.false-raw);
  distinct = c.distinct.ensures (not-false _ c.if-not-distinct.false-raw);
  even = c.even.ensures e;
}
