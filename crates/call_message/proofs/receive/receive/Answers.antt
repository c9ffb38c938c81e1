use Rattle.call_orders.specs.Stages.{seen}
use Rattle.call_message.proofs.receive.Laws.{chosen_good, received}
use Rattle.call_message.proofs.receive.receive.Goals as goal

pub choose-plan-requires : goal.choose-plan-requires
choose-plan-requires c = record { n_bound = c.requires.n_bound.0; lookable = record { table = c.requires.actable.ready.table.long; queue = c.requires.actable.ready.queue; pending = c.requires.actable.ready.pending; references = c.requires.n_bound.1; bins = c.requires.n_bound.2 } }

pub note_plan-requires : goal.note_plan-requires
note_plan-requires c =
    (c.requires.n_bound.1, c.requires.n_bound.2, (chosen_good c.args.desk c.requires.n_bound.0 (seen c.args.batches.now c.args.queue.now c.args.nq c.args.pending.now c.args.nw) c.args.references.now c.args.bins.now _ c.args.sender _ _ c.read_request-r.ensures c.choose-plan.ensures).1)

pub perform-requires : goal.perform-requires
perform-requires c = record { actable = c.requires.actable; apt = (chosen_good c.args.desk c.requires.n_bound.0 (seen c.args.batches.now c.args.queue.now c.args.nq c.args.pending.now c.args.nw) c.args.references.now c.args.bins.now _ c.args.sender _ _ c.read_request-r.ensures c.choose-plan.ensures).0 }

pub returns : goal.returns
returns c =
    received _ _ _ _ _ _ _ _ _ c.requires.actable c.requires.n_bound.0 _ _ _ _ _ c.read_request-r.ensures _ c.choose-plan.ensures _ _ c.note_plan.ensures _ _ _ _ _ _ _ _ _ _ _ c.perform.ensures
