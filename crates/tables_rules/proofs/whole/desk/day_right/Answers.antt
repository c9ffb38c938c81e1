use Rattle.tables_rules.proofs.whole.DayLaws.{day_1, day_banks, day_2, day_long, day_counts, day_known, day_3, day_4}
use Rattle.tables_rules.proofs.whole.desk.day_right.Goals as goal

pub returns-then-not-desk_right : goal.returns-then-not-desk_right
returns-then-not-desk_right c = search day_1

pub batches_right-requires : goal.batches_right-requires
batches_right-requires c = search day_banks

pub returns-then-not-batches_right : goal.returns-then-not-batches_right
returns-then-not-batches_right c = search day_2

pub returns-then-not-known_right : goal.returns-then-not-known_right
returns-then-not-known_right c = search day_3

pub cross_right-requires : goal.cross_right-requires
cross_right-requires c = let a = c.args in let k = day_known a.desk.date a.references.now a.bins.now c.known_right.result c.known_right.ensures c.if-not-known_right.false-raw in record { batches_len = (day_long a.desk.banks a.batches.now c.batches_right.result c.batches_right.ensures c.if-not-batches_right.false-raw, k.0, k.1); each = day_counts a.desk.banks a.batches.now c.batches_right.result c.batches_right.ensures c.if-not-batches_right.false-raw }

pub returns : goal.returns
returns c = search day_4
