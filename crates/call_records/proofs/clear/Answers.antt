use Rattle.call_records.proofs.Refused.{short_start}
use Rattle.call_records.proofs.clear.Goals as goal

pub returns-then-row-ne-ROW : goal.returns-then-row-ne-ROW
returns-then-row-ne-ROW c = short_start c.args.desk c.args.row.now c.args.batches.now c.args.references.now c.args.bins.now c.no_start.result c.if-row-ne-ROW.true c.no_start.ensures
