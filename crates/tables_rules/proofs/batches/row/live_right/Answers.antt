use Rattle.tables_rules.proofs.batches.RowTests.{live_1, top_few, live_2, heads_few, live_3, live_4}
use Rattle.std.proofs.Common.{rules}
use Rattle.tables_rules.proofs.batches.row.live_right.Goals as goal

pub returns-then-not-top_right : goal.returns-then-not-top_right
returns-then-not-top_right c = search live_1

pub heads_right-requires : goal.heads_right-requires
heads_right-requires c = let f = top_few c.args.row.now c.args.banks c.top_right.result c.top_right.ensures (search rules) in (search rules, f.0, f.1)

pub returns-then-not-heads_right : goal.returns-then-not-heads_right
returns-then-not-heads_right c = search live_2

pub payments_right-requires : goal.payments_right-requires
payments_right-requires c = search (rules, heads_few)

pub returns-then-not-payments_right : goal.returns-then-not-payments_right
returns-then-not-payments_right c = search live_3

pub behind_right-requires : goal.behind_right-requires
behind_right-requires c = (search rules, (top_few c.args.row.now c.args.banks c.top_right.result c.top_right.ensures (search rules)).0, heads_few c.args.row.now c.args.banks c.top_right.result c.top_right.ensures c.heads_right.result c.heads_right.ensures (search rules) (search rules))

pub returns : goal.returns
returns c = search live_4
