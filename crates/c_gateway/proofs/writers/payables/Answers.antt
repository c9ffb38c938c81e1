use Rattle.c_gateway.proofs.WriterLaws.{payables_made}
use Rattle.c_gateway.proofs.writers.payables.Goals as goal

pub returns : goal.returns
returns c = payables_made _ c.payable.ensures c.payable-2.ensures c.payable-3.ensures c.payable-4.ensures c.payable-5.ensures c.payable-6.ensures c.payable-7.ensures c.payable-8.ensures c.payable-9.ensures c.payable-10.ensures
