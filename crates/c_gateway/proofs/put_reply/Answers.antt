use Rattle.c_gateway.specs.Responses.{settlement_words, recall_words}
use Rattle.c_gateway.proofs.put_reply.Goals as goal

pub returns-in-Settlement : goal.returns-in-Settlement
unfolding settlement_words
returns-in-Settlement c = rw c.in-Settlement.is c.put_settlement.ensures

pub returns-in-Recall : goal.returns-in-Recall
unfolding recall_words
returns-in-Recall c = rw c.in-Recall.is c.put_recall.ensures

pub returns-in-Refused : goal.returns-in-Refused
returns-in-Refused c = rw c.in-Refused.is c.put_unread.ensures
