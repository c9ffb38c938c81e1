use Rattle.c_gateway.proofs.BreakLaws.{settled_report, recalled_report, unread_report}
use Rattle.c_gateway.proofs.breaks.response_report.Goals as goal

pub returns-in-Settlement : goal.returns-in-Settlement
returns-in-Settlement c = search settled_report

pub returns-in-Recall : goal.returns-in-Recall
returns-in-Recall c = search recalled_report

pub returns-in-Refused : goal.returns-in-Refused
returns-in-Refused c = search unread_report
