use Rattle.c_gateway.proofs.WriterLaws.{order_made}
use Rattle.c_gateway.proofs.writers.order.Goals as goal

pub returns : goal.returns
returns c = search order_made
