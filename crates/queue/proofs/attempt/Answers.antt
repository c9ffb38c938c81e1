use Rattle.queue.proofs.TurnLaws.{ready, fits_held, is_omitted, is_passed, is_remembered_lem, is_failed}
use borrow.Author.Rules.{rules}
use Rattle.queue.proofs.attempt.Goals as goal

pub returns-then-omits : goal.returns-then-omits
returns-then-omits c = search (rules, is_omitted)

pub settle-requires : goal.settle-requires
settle-requires c =
    ready _ _ _ _ c.requires.books c.requires.good _ c.first_uncovered-verdict.ensures (search rules)

pub overflow_add-memory : goal.overflow_add-memory
overflow_add-memory c =
    fits_held _ _ _ _ c.requires.books c.requires.good _ c.first_uncovered-verdict.ensures _ (search rules)

pub returns-in-Passes : goal.returns-in-Passes
returns-in-Passes c = search (rules, is_passed)

pub returns-then-quick : goal.returns-then-quick
returns-then-quick c = search (rules, is_remembered_lem)

pub returns-else-quick : goal.returns-else-quick
returns-else-quick c = search (rules, is_failed)
