use Rattle.call_message.proofs.outcome.TakeLaws.{roomy, completable, taken}
use borrow.Author.Rules.{rules}
use Rattle.call_message.proofs.outcome.taking.take_in.Goals as goal

-- src/taking.rt:47:5
pub arrive_at-requires : goal.arrive_at-requires
arrive_at-requires c = record { place_bound = (c.requires.takeable.below, c.requires.takeable.ready.table.long); roomy = (roomy _ _ _ _ _ _ _ _ _ _ _ c.requires.takeable c.requires.fair, search rules) }

-- src/taking.rt:48:5
pub complete-requires : goal.complete-requires
complete-requires c = completable _ _ _ _ _ _ _ _ _ _ _ c.requires.takeable c.requires.fair _ _ c.put_message.ensures (search rules) c.arrive_at.ensures

-- src/taking.rt:23:1
pub returns : goal.returns
returns c = taken _ _ _ _ _ _ _ _ _ _ _ c.requires.takeable c.requires.fair _ _ c.put_message.ensures (search rules) c.arrive_at.ensures _ _ _ _ _ _ _ _ _ _ _ c.complete.ensures
