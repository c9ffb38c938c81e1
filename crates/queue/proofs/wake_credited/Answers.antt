use Rattle.queue.proofs.MemoryLaws.{marks_wake}
use borrow.Author.Rules.{rules}
use Rattle.queue.proofs.wake_credited.Goals as goal

pub returns : goal.returns
returns c = search (rules, marks_wake)
