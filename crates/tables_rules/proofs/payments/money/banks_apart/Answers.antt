use Rattle.std.proofs.Common.{rules}
use Rattle.tables_rules.proofs.payments.MoneyLaws.{bank_start, bank_end, bank_not, bank_on}
use Rattle.tables_rules.proofs.payments.money.banks_apart.Goals as goal

pub loop-j-init : goal.loop-j-init
loop-j-init c = search (rules, bank_start)

pub returns-then-not-mark : goal.returns-then-not-mark
returns-then-not-mark c = search (rules, bank_not)

pub loop-j-preserved : goal.loop-j-preserved
loop-j-preserved c = (search rules, search rules, search bank_on)

pub returns : goal.returns
returns c = bank_end c.args.row.now _ _ _ c.loop-j.seen c.loop-j.invariant.2 c.loop-j-test.false
