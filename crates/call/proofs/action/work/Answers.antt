use Rattle.call.proofs.action.WorkLaws.{test_able, test_room, worked}
use borrow.Author.Rules.{rules}
use Rattle.call.proofs.action.work.Goals as goal

pub act-acted-requires : goal.act-acted-requires
act-acted-requires c = record { actable = c.requires.actable; n_bound = (c.requires.few_streams, c.requires.house.sublimits_long, c.requires.references, c.requires.bins) }

pub test-tested-requires : goal.test-tested-requires
test-tested-requires c = record { testable = test_able _ _ c.args.action c.args.input.now _ _ _ _ _ _ _ _ _ _ _ _ _ _ c.requires _ _ _ _ _ _ _ _ _ _ _ _ _ (c.act-acted.ensures _) (search rules); room = test_room _ _ c.args.action c.args.input.now _ _ _ _ _ _ _ _ _ _ _ _ _ _ c.requires _ _ _ _ _ _ _ _ _ _ _ _ _ (c.act-acted.ensures _) }

pub returns : goal.returns
returns c = worked _ _ c.args.action c.args.input.now _ _ _ _ _ _ _ _ _ _ _ _ _ _ c.requires _ _ _ _ _ _ _ _ _ _ _ _ _ (c.act-acted.ensures _) _ _ _ _ _ _ _ _ _ _ c.test-tested.ensures.ended c.test-tested.ensures.wrote
