use Rattle.request_write.proofs.Laws.{made, order_refused, accepted_written}
use Rattle.request_write.proofs.write_request.Goals as goal

pub returns-in-Refused : goal.returns-in-Refused
returns-in-Refused c =
    let a = c.args in
    order_refused a.out.now a.at a.order (made _ c.put_order-n.ensures.puts c.put_order-n.ensures.small) c.read_request-reading.ensures c.in-Refused.is

pub returns-in-Settlement : goal.returns-in-Settlement
returns-in-Settlement c =
    let a = c.args in
    accepted_written a.out.now a.at a.order (made _ c.put_order-n.ensures.puts c.put_order-n.ensures.small) c.read_request-reading.ensures c.write_text.ensures c.in-Settlement.is
