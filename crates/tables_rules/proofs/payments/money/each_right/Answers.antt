use Rattle.std.proofs.Common.{rules}
use Rattle.tables_rules.proofs.payments.MoneyLaws.{pays_start, pays_end, pays_not, pays_on}
use Rattle.tables_rules.proofs.payments.money.each_right.Goals as goal

pub loop-j-init : goal.loop-j-init
loop-j-init c = search (rules, pays_start)

pub returns-then-not-payment_right : goal.returns-then-not-payment_right
returns-then-not-payment_right c = search (rules, pays_not)

pub loop-j-preserved : goal.loop-j-preserved
loop-j-preserved c = search (rules, pays_on)

pub returns : goal.returns
returns c = pays_end c.args.row.now c.args.n c.loop-j.j c.args.banks c.loop-j.invariant.1 c.loop-j-test.false
