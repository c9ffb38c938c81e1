use Rattle.tables_rules.proofs.batches.RowTests.{row_free, row_wrong, row_dead, live_cheap, live_little, row_building, row_pending, row_queued}
use Rattle.std.proofs.Common.{rules}
use Rattle.tables_rules.proofs.batches.row.row_right.Goals as goal

pub returns-then-phase-eq0 : goal.returns-then-phase-eq0
returns-then-phase-eq0 c = search row_free

pub returns-then-phase-gt3 : goal.returns-then-phase-gt3
returns-then-phase-gt3 c = search row_wrong

pub returns-then-not-live_right : goal.returns-then-not-live_right
returns-then-not-live_right c = search row_dead

pub returns-then-phase-eq1 : goal.returns-then-phase-eq1
returns-then-phase-eq1 c = search row_building

pub pending_right-requires : goal.pending_right-requires
pending_right-requires c = record { row_len = (search rules, live_little c.args.row.now c.args.banks c.live_right.result c.live_right.ensures (search rules)); each = live_cheap c.args.row.now c.args.banks c.live_right.result c.live_right.ensures (search rules) }

pub returns-then-phase-eq2 : goal.returns-then-phase-eq2
returns-then-phase-eq2 c = search row_pending

pub queued_right-requires : goal.queued_right-requires
queued_right-requires c = record { row_len = (search rules, live_little c.args.row.now c.args.banks c.live_right.result c.live_right.ensures (search rules)); each = live_cheap c.args.row.now c.args.banks c.live_right.result c.live_right.ensures (search rules) }

pub returns : goal.returns
returns c = search row_queued
