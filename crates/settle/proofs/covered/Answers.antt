use borrow.Author.Tests.{lt-leb}
use borrow.Author.Rules.{rules}
use Rattle.settle.proofs.Laws.{with_P, with_A_room, with_A_none, with_other}
use Rattle.settle.proofs.covered.Goals as goal

pub returns-in-80 : goal.returns-in-80
returns-in-80 c = with_P _ _ _ _ c.in-80.is

pub returns-then-sublimit-balance : goal.returns-then-sublimit-balance
returns-then-sublimit-balance c = with_A_room _ _ _ _ c.in-32.is c.if-sublimit-balance.true

pub returns-else-sublimit-balance : goal.returns-else-sublimit-balance
returns-else-sublimit-balance c = rw (lt-leb _ _ c.if-sublimit-balance.false) (with_A_none _ _ _ _ c.in-32.is c.if-sublimit-balance.false)

pub returns-in_default : goal.returns-in_default
returns-in_default c = search (rules, with_other)
