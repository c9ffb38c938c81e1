use Rattle.c_gateway.proofs.BreakLaws.{settlement_report, recall_report, refused_report}
use Rattle.c_gateway.proofs.breaks.request_report.Goals as goal

pub returns-in-Settlement : goal.returns-in-Settlement
returns-in-Settlement c = search settlement_report

pub returns-in-Recall : goal.returns-in-Recall
returns-in-Recall c = search recall_report

pub returns-in-Refused : goal.returns-in-Refused
returns-in-Refused c = search refused_report
