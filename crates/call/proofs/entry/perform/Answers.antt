use Rattle.call.proofs.entry.CallLaws.{full, sheet_long, same_able, opens_day, steps_ruled, takes_steps, gives_book}
use Rattle.call.proofs.entry.Moments.{step_able, book_able, book_room}
use Rattle.call.specs.entry.Calls.{kind_by}
use mathlib.Core.Path.{sym, ap, ◌∙◌}
use Rattle.call.proofs.entry.perform.Goals as goal

pub open_day-begun-requires : goal.open_day-begun-requires
open_day-begun-requires c = full c.args.quick _ _ c.args.input.now _ _ _ _ _ _ _ _ _ _ _ c.requires

pub step-told-requires : goal.step-told-requires
step-told-requires c = step_able _ _ _ _ _ _ (same_able c.args.quick _ _ c.args.input.now _ _ _ _ _ _ _ _ _ _ _ c.requires) (sym c.kind_of-kind.ensures ∙ ap kind_by c.in-Steps.is)

pub fill-requires : goal.fill-requires
fill-requires c = record { ruled = steps_ruled c.args.quick _ _ c.args.input.now _ _ _ _ _ _ _ _ _ _ _ c.requires (sym c.kind_of-kind.ensures ∙ ap kind_by c.in-Steps.is) c.step-told.result _ _ _ _ _ _ _ c.step-told.ensures; sheet_len = sheet_long c.args.quick _ _ c.args.input.now _ _ _ _ _ _ _ _ _ _ _ c.requires }

pub give_book-written-requires : goal.give_book-written-requires
give_book-written-requires c = record { full = full c.args.quick _ _ c.args.input.now _ _ _ _ _ _ _ _ _ _ _ c.requires; le_n = book_able _ _ _ _ _ _ c.requires _ (sym c.kind_of-kind.ensures ∙ ap kind_by c.in-Gives.is); banks_in_bounds = book_room _ _ _ _ _ _ c.requires _ (sym c.kind_of-kind.ensures ∙ ap kind_by c.in-Gives.is) }

pub returns-in-Opens : goal.returns-in-Opens
returns-in-Opens c = opens_day _ _ _ _ _ _ _ _ _ _ _ _ _ _ _ c.requires (sym c.kind_of-kind.ensures ∙ ap kind_by c.in-Opens.is) _ c.open_day-begun.ensures

pub returns-in-Steps : goal.returns-in-Steps
returns-in-Steps c = takes_steps _ _ _ _ _ _ _ _ _ _ _ _ _ _ _ c.requires (sym c.kind_of-kind.ensures ∙ ap kind_by c.in-Steps.is) c.step-told.result _ _ _ _ _ _ _ c.step-told.ensures _ c.fill.ensures

pub returns-in-Gives : goal.returns-in-Gives
returns-in-Gives c = gives_book _ _ _ _ _ _ _ _ _ _ _ _ _ _ _ c.requires _ (sym c.kind_of-kind.ensures ∙ ap kind_by c.in-Gives.is) _ _ _ c.give_book-written.ensures c.moved-moved.ensures
