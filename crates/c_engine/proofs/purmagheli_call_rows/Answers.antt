use mathlib.Core.Path.{refl}
use Rattle.c_engine.proofs.Laws.{call_short, call_broken, call_shown}
use Rattle.tables.proofs.TestLaws.{says_yes}
use Rattle.c_engine.proofs.purmagheli_call_rows.Goals as goal

pub returns-then-report-lt-REPORT_WORDS : goal.returns-then-report-lt-REPORT_WORDS
returns-then-report-lt-REPORT_WORDS c = call_short _ _ _ c.if-report-lt-REPORT_WORDS.true c.number.ensures

pub shape_of-desk-then-not-shape_right : goal.shape_of-desk-then-not-shape_right
shape_of-desk-then-not-shape_right c = refl

pub shape_of-banks-then-not-shape_right : goal.shape_of-banks-then-not-shape_right
shape_of-banks-then-not-shape_right c = refl

pub returns-then-not-shape_right : goal.returns-then-not-shape_right
returns-then-not-shape_right c = call_broken _ _ _ c.if-report-lt-REPORT_WORDS.false c.shape_right.result c.shape_right.ensures c.if-not-shape_right.true-raw c.number-then-not-shape_right.ensures

pub call_on-requires : goal.call_on-requires
call_on-requires c = record { shaped = says_yes c.shape_right.result c.shape_right.ensures c.if-not-shape_right.false-raw; in_bounds = c.if-report-lt-REPORT_WORDS.false }

pub shape_of-desk : goal.shape_of-desk
shape_of-desk c = c.call_on.auto.desk

pub shape_of-banks : goal.shape_of-banks
shape_of-banks c = c.call_on.auto.banks

pub shape_of-batches : goal.shape_of-batches
shape_of-batches c = c.call_on.auto.batches

pub shape_of-references : goal.shape_of-references
shape_of-references c = c.call_on.auto.references

pub shape_of-bins : goal.shape_of-bins
shape_of-bins c = c.call_on.auto.bins

pub shape_of-out : goal.shape_of-out
shape_of-out c = c.call_on.auto.out

pub shape_of-tries : goal.shape_of-tries
shape_of-tries c = c.call_on.auto.tries

pub shape_of-report : goal.shape_of-report
shape_of-report c = c.call_on.auto.report

pub returns : goal.returns
returns c = call_shown _ c.args.quick c.args.clock c.args.action c.args.first c.args.second c.args.third c.args.fourth c.args.input.now _ c.if-report-lt-REPORT_WORDS.false c.shape_right.result c.shape_right.ensures c.if-not-shape_right.false-raw _ c.action_of-asked.ensures c.call_on.ensures
