use Rattle.c_gateway.proofs.WriterLaws.{settlement_kind, recall_kind, other_kind}
use Rattle.c_gateway.proofs.writers.write_response.Goals as goal

pub returns-in-132 : goal.returns-in-132
returns-in-132 c = settlement_kind _ _ c.value-kind.ensures c.in-132.is c.write_settlement.ensures

pub returns-in-134 : goal.returns-in-134
returns-in-134 c = recall_kind _ _ c.value-kind.ensures c.in-134.is c.write_recall.ensures

pub returns-in_default : goal.returns-in_default
returns-in_default c = other_kind _ _ c.value-kind.ensures c.in_default.in_default-own.rest.0.1 c.in_default.in_default-own.rest.1
