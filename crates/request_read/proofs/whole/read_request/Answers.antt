use Rattle.request_read.proofs.whole.Laws.{request_settles, request_recalls, request_breaks}
use Rattle.request_read.proofs.whole.read_request.Goals as goal

pub returns-in-Settlement : goal.returns-in-Settlement
returns-in-Settlement c = search request_settles

pub returns-in-Recall : goal.returns-in-Recall
returns-in-Recall c = search request_recalls

pub returns-in-Refused : goal.returns-in-Refused
returns-in-Refused c = search request_breaks
