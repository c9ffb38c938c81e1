use Rattle.tables_rules.proofs.payments.MoneyLaws.{pays_1, pays_2}
use Rattle.tables_rules.proofs.payments.money.payments_right.Goals as goal

pub returns-then-not-each_right : goal.returns-then-not-each_right
returns-then-not-each_right c = search pays_1

pub returns : goal.returns
returns c = search pays_2
