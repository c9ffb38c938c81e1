use Rattle.call.proofs.entry.CallLaws.{broken, few, refuses, able, performs}
use Rattle.call.proofs.entry.call.Goals as goal

pub returns-then-not-tables_right : goal.returns-then-not-tables_right
returns-then-not-tables_right c = broken c.args.quick c.args.clock c.args.action c.args.input.now _ _ _ _ _ _ _ _ _ c.args.out.now c.args.tries.now c.tables_right.result c.tables_right.ensures c.if-not-tables_right.true-raw _ c.refused.ensures

pub judge-judged-requires : goal.judge-judged-requires
judge-judged-requires c = few c.args.quick c.args.clock c.args.action c.args.input.now _ _ _ _ _ _ _ _ _ c.args.out.now c.args.tries.now c.tables_right.result c.tables_right.ensures c.if-not-tables_right.false-raw

pub perform-requires : goal.perform-requires
perform-requires c = able c.args.quick c.args.clock c.args.action c.args.input.now _ _ _ _ _ _ _ _ _ c.args.out.now c.args.tries.now c.tables_right.result c.tables_right.ensures c.if-not-tables_right.false-raw _ c.judge-judged.ensures c.in-Ok.is

pub returns-in-Err : goal.returns-in-Err
returns-in-Err c = refuses c.args.quick c.args.clock c.args.action c.args.input.now _ _ _ _ _ _ _ _ _ c.args.out.now c.args.tries.now c.tables_right.result c.tables_right.ensures c.if-not-tables_right.false-raw _ c.judge-judged.ensures _ c.in-Err.is _ c.refused-in-Err.ensures

pub returns-in-Ok : goal.returns-in-Ok
returns-in-Ok c = performs c.args.quick c.args.clock c.args.action c.args.input.now _ _ _ _ _ _ _ _ _ c.args.out.now c.args.tries.now c.tables_right.result c.tables_right.ensures c.if-not-tables_right.false-raw _ c.judge-judged.ensures c.in-Ok.is _ c.perform.ensures
