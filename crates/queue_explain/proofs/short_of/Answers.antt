use Rattle.queue_explain.specs.Holding.{short_of}
use borrow.Author.Rules.{rules}
use Rattle.queue_explain.proofs.short_of.Goals as goal

pub returns-then-sublimit-left : goal.returns-then-sublimit-left
unfolding short_of
returns-then-sublimit-left c = search rules

pub returns-then-cents-balance : goal.returns-then-cents-balance
unfolding short_of
returns-then-cents-balance c = search rules

pub returns-then-lack-sublimit : goal.returns-then-lack-sublimit
unfolding short_of
returns-then-lack-sublimit c = search rules

pub returns : goal.returns
unfolding short_of
returns c = search rules
