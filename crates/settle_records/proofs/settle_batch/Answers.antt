use Rattle.settle_records.proofs.TestingLaws.{batch_refused, batch_ready, batch_settled}
use borrow.Author.Rules.{rules}
use Rattle.settle_records.proofs.settle_batch.Goals as goal

pub returns-then-not-ready : goal.returns-then-not-ready
returns-then-not-ready c = search (rules, batch_refused)

pub settle_row-after-requires : goal.settle_row-after-requires
settle_row-after-requires c = search (rules, batch_ready)

pub returns : goal.returns
returns c = search (rules, batch_settled)
