use Rattle.call_records.proofs.Refused.{short_call}
use Rattle.call_records.proofs.call.Goals as goal

pub returns-then-row-ne-ROW : goal.returns-then-row-ne-ROW
returns-then-row-ne-ROW c = short_call c.args.desk c.args.row.now c.args.batches.now c.args.references.now c.args.bins.now c.args.out.now c.args.tries.now _ c.no_call.result c.if-row-ne-ROW.true c.no_call.ensures
