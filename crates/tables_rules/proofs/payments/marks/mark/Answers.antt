use Rattle.tables_rules.proofs.payments.MarkLaws.{mark_high, mark_seen, mark_new}
use Rattle.std.proofs.Common.{rules}
use Rattle.tables_rules.proofs.payments.marks.mark.Goals as goal

pub returns-then-n-k : goal.returns-then-n-k
returns-then-n-k c = search mark_high

pub returns-then-seen-i-ne0 : goal.returns-then-seen-i-ne0
returns-then-seen-i-ne0 c = search mark_seen

pub returns : goal.returns
returns c = search (rules, mark_new)
