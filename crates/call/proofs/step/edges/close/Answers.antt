use borrow.Author.Rules.{rules}
use Rattle.call.proofs.step.edges.close.Goals as goal

pub returns : goal.returns
returns c = record { wrote = search rules; batches_after = search rules }
