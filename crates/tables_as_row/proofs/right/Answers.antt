use Rattle.tables_as_row.proofs.Laws.{tables_say}
use Rattle.tables_as_row.proofs.right.Goals as goal

pub returns : goal.returns
returns c =
    tables_say _ c.tables_right.result
    c.desk-d.ensures
    c.lent-codes.ensures.value
    c.lent-flags.ensures.value
    c.lent-balances.ensures.value
    c.lent-sublimits.ensures.value
    c.lent-batches.ensures.value
    c.lent-references.ensures.value
    c.lent-bins.ensures.value
    c.lent-sheet.ensures.value
    c.tables_right.ensures
