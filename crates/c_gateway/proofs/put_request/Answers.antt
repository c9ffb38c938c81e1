use mathlib.Core.Path.{refl}
use Rattle.request_read.proofs.whole.Laws.{request_settles, request_recalls, request_breaks}
use Rattle.c_gateway.proofs.Laws.{begun_row, begun_refused}
use Rattle.c_gateway.proofs.put_request.Goals as goal

pub returns-in-Settlement : goal.returns-in-Settlement
returns-in-Settlement c = begun_row _ (request_settles _ c.read_beginning-b.ensures c.in-Settlement.is refl) c.put_settling.ensures

pub returns-in-Recall : goal.returns-in-Recall
returns-in-Recall c = begun_row _ (request_recalls _ c.read_beginning-b.ensures c.in-Recall.is refl) c.put_recalling.ensures

pub returns-in-Refused : goal.returns-in-Refused
returns-in-Refused c = begun_refused _ _ (request_breaks _ c.read_beginning-b.ensures c.in-Refused.is refl) c.in-Refused.is c.put_refused.ensures
