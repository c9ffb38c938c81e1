use Rattle.tables_rules.proofs.batches.HeadLaws.{heads_1, heads_sizes, heads_2, heads_3}
use Rattle.std.proofs.Common.{rules}
use Rattle.tables_rules.proofs.batches.heads.heads_right.Goals as goal

pub returns-then-not-each_right : goal.returns-then-not-each_right
returns-then-not-each_right c = search heads_1

pub returns-then-not-numbers_apart : goal.returns-then-not-numbers_apart
returns-then-not-numbers_apart c = heads_2 c.args.row.now c.each_right.result c.each_right.ensures (search rules) c.numbers_apart.result c.numbers_apart.ensures (search rules)

pub total-requires : goal.total-requires
total-requires c = record { row_len = search rules; each = heads_sizes c.args.row.now c.each_right.result c.each_right.ensures (search rules) }

pub returns : goal.returns
returns c = heads_3 c.args.row.now c.each_right.result c.each_right.ensures (search rules) c.numbers_apart.result c.numbers_apart.ensures (search rules) (search rules) c.total.ensures
