use Rattle.tables_rules.proofs.payments.MoneyLaws.{pay_bank, pay_cents, pay_credit, pay_debit}
use Rattle.std.proofs.Common.{rules}
use Rattle.tables_rules.proofs.payments.money.payment_right.Goals as goal

pub returns-then-banks-row : goal.returns-then-banks-row
returns-then-banks-row c = search pay_bank

pub returns-then-row-at-gt-MOST_CENTS : goal.returns-then-row-at-gt-MOST_CENTS
returns-then-row-at-gt-MOST_CENTS c = pay_cents c.args.row.now c.args.at c.args.banks c.if-row-at-gt-MOST_CENTS.true

pub returns-then-letters-eq0 : goal.returns-then-letters-eq0
returns-then-letters-eq0 c = pay_credit c.args.row.now c.args.at c.args.banks (search rules) (search rules) (search rules)

pub returns : goal.returns
returns c = pay_debit c.args.row.now c.args.at c.args.banks (search rules) (search rules) (search rules) _ c.letters_right.ensures
