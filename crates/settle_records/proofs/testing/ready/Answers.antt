use Rattle.settle_records.proofs.TestingLaws.{is_ready_lem}
use borrow.Author.Rules.{rules}
use Rattle.settle_records.proofs.testing.ready.Goals as goal

pub returns : goal.returns
returns c = search (rules, is_ready_lem)
