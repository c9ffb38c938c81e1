use borrow.Author.Rules.{rules}
use Rattle.call.proofs.step.EdgeLaws.{loaded_joined}
use Rattle.call.proofs.step.edges.begin.Goals as goal

pub returns : goal.returns
returns c = record { became = search (rules, loaded_joined); memory_after = search rules }
