use Rattle.queue_explain.proofs.Laws.{no_place, not_queued, too_many, queued}
use borrow.Author.Rules.{rules}
use Rattle.queue_explain.proofs.held_at.Goals as goal

pub returns-in_default : goal.returns-in_default
returns-in_default c = search no_place

pub returns-then-word-ne-QUEUED : goal.returns-then-word-ne-QUEUED
returns-then-word-ne-QUEUED c = search (rules, not_queued)

pub returns-then-count : goal.returns-then-count
returns-then-count c = search (rules, too_many)

pub returns : goal.returns
returns c = search (rules, queued)
