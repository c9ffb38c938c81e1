use mathlib.Core.Path.{◌∙◌}
use Rattle.c_engine.proofs.Laws.{shown}
use Rattle.c_engine.proofs.call_on.Goals as goal

pub write_desk-requires : goal.write_desk-requires
write_desk-requires c = c.requires.shaped.desk_long

pub write_report-requires : goal.write_report-requires
write_report-requires c = c.requires.in_bounds

pub shape_of-desk : goal.shape_of-desk
shape_of-desk c = c.write_desk.auto.desk

pub shape_of-banks : goal.shape_of-banks
shape_of-banks c = c.call_banks-told.auto.banks

pub shape_of-batches : goal.shape_of-batches
shape_of-batches c = c.call_banks-told.auto.batches

pub shape_of-references : goal.shape_of-references
shape_of-references c = c.call_banks-told.auto.references

pub shape_of-bins : goal.shape_of-bins
shape_of-bins c = c.call_banks-told.auto.bins

pub shape_of-out : goal.shape_of-out
shape_of-out c = c.call_banks-told.auto.out

pub shape_of-tries : goal.shape_of-tries
shape_of-tries c = c.call_banks-told.auto.tries

pub shape_of-report : goal.shape_of-report
shape_of-report c = c.write_report.auto.report

pub returns : goal.returns
returns c = shown _ _ _ _ _ _ _ _ _ _ _ _ _ _ _ _ _ _ _ _ (c.call_banks-told.auto.banks ∙ c.requires.shaped.banks_long) c.read_desk-before.ensures c.call_banks-told.ensures c.write_desk.ensures c.write_report.ensures c.number_of.ensures
