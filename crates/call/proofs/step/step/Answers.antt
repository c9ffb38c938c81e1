use mathlib.Core.Path.{sym, ◌∙◌}
use Rattle.call.proofs.step.StepLaws.{grants, able, ready_on, neat_on, on, closing, closed}
use native.Mathlib.Omega.{arith}
use borrow.Author.Rules.{rules}
use Rattle.call.proofs.step.step.Goals as goal

pub begin-found-requires : goal.begin-found-requires
begin-found-requires c = ((grants c.args.quick _ c.args.action _ c.args.input.now _ _ _ _ _ _ _ _ _ c.requires).neat, search rules, search rules, search rules)

pub work-done-requires : goal.work-done-requires
work-done-requires c = able c.args.quick _ c.args.action _ c.args.input.now _ _ _ _ _ _ _ _ _ c.requires _ c.moved-moved.ensures _ _ _ _ _ c.begin-found.ensures.memory_after.0 c.begin-found.ensures.became c.begin-found.ensures.memory_after.1 (omega (arith, c.queue-2-1.given)) (omega (arith, c.pending-2-1.given)) (omega (arith, c.memory-2-1.given))

pub close-last-requires : goal.close-last-requires
close-last-requires c = record { legible = (closing c.args.quick _ c.args.action _ c.args.input.now _ _ _ _ _ _ _ _ _ c.requires _ c.moved-moved.ensures _ _ _ _ _ c.begin-found.ensures.memory_after.0 c.begin-found.ensures.became _ _ _ _ _ _ _ _ _ _ _ _ _ _ _ _ c.work-done.ensures (search rules) (search rules) (sym c.is_close.ensures ∙ c.if-is_close.true)).0; room = (closing c.args.quick _ c.args.action _ c.args.input.now _ _ _ _ _ _ _ _ _ c.requires _ c.moved-moved.ensures _ _ _ _ _ c.begin-found.ensures.memory_after.0 c.begin-found.ensures.became _ _ _ _ _ _ _ _ _ _ _ _ _ _ _ _ c.work-done.ensures (search rules) (search rules) (sym c.is_close.ensures ∙ c.if-is_close.true)).1 }

pub returns-then-is_close : goal.returns-then-is_close
returns-then-is_close c = closed c.args.quick _ c.args.action _ c.args.input.now _ _ _ _ _ _ _ _ _ c.requires _ c.moved-moved.ensures _ _ _ _ _ c.begin-found.ensures.memory_after.0 c.begin-found.ensures.became _ _ _ _ _ _ _ _ _ _ _ _ _ _ _ _ c.work-done.ensures (search rules) (search rules) (sym c.is_close.ensures ∙ c.if-is_close.true) _ _ _ _ _ c.close-last.ensures.wrote c.close-last.ensures.batches_after c.desk_after-left.ensures

pub store-requires : goal.store-requires
store-requires c = record { nq_in_bounds = ((ready_on c.args.quick _ c.args.action _ c.args.input.now _ _ _ _ _ _ _ _ _ c.requires _ c.moved-moved.ensures _ _ _ _ _ c.begin-found.ensures.memory_after.0 c.begin-found.ensures.became _ _ _ _ _ _ _ _ _ _ _ _ _ _ _ _ c.work-done.ensures (search rules) (search rules)).0, (ready_on c.args.quick _ c.args.action _ c.args.input.now _ _ _ _ _ _ _ _ _ c.requires _ c.moved-moved.ensures _ _ _ _ _ c.begin-found.ensures.memory_after.0 c.begin-found.ensures.became _ _ _ _ _ _ _ _ _ _ _ _ _ _ _ _ c.work-done.ensures (search rules) (search rules)).1, search rules); neat_table = neat_on c.args.quick _ c.args.action _ c.args.input.now _ _ _ _ _ _ _ _ _ c.requires _ c.moved-moved.ensures _ _ _ _ _ c.begin-found.ensures.memory_after.0 c.begin-found.ensures.became _ _ _ _ _ _ _ _ _ _ _ _ _ _ _ _ c.work-done.ensures (search rules) (search rules) }

pub returns : goal.returns
returns c = on c.args.quick _ c.args.action _ c.args.input.now _ _ _ _ _ _ _ _ _ c.requires _ c.moved-moved.ensures _ _ _ _ _ c.begin-found.ensures.memory_after.0 c.begin-found.ensures.became _ _ _ _ _ _ _ _ _ _ _ _ _ _ _ _ c.work-done.ensures (search rules) (search rules) (sym c.is_close.ensures ∙ c.if-is_close.false) _ _ c.store.ensures c.desk_after-left-2.ensures
