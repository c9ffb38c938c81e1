use Rattle.request_read.proofs.whole.Laws.{recall_1, recall_2}
use Rattle.c_gateway.proofs.Laws.{refused_reading, recalled_reading}
use mathlib.Core.Path.{refl}
use Rattle.c_gateway.proofs.put_recalling.Goals as goal

pub returns-then-c-text : goal.returns-then-c-text
returns-then-c-text c = refused_reading _ _ (recall_1 _ _ _ c.if-c-text.true c.absent.ensures refl) c.put_refused.ensures

pub returns : goal.returns
returns c = recalled_reading _ _ (recall_2 _ _ _ c.if-c-text.false refl) c.nothing.ensures c.nothing-2.ensures c.put_accepted.ensures
