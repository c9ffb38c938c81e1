use native.Mathlib.Omega.{arith}
use Rattle.call_records.specs.Records.{Long}
use Rattle.call_records.proofs.Rows.{saved_on}
use Rattle.call_records.proofs.save.Goals as goal

pub loop-i-preserved : goal.loop-i-preserved
loop-i-preserved c =
    let r = c.requires in
    let long : Long c.loop-i.row c.args.codes.now c.args.flags.now c.args.balances.now c.args.sublimits.now c.args.sheet.now =
    record { row_long = omega arith; codes_long = r.codes_long; flags_long = r.flags_long; balances_long = r.balances_long; sublimits_long = r.sublimits_long; sheet_long = r.sheet_long } in
    saved_on c.loop-i.row c.args.codes.now c.args.flags.now c.args.balances.now c.args.sublimits.now c.args.sheet.now long c.loop-i.i c.loop-i-test.true c.loop-i.invariant
