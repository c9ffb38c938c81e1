use native.Mathlib.Omega.{arith}
use Rattle.std.proofs.lemmas.Result.{err_from_is_err_and}
use Rattle.call_plan.proofs.rules.Asked.{some_of, none_of}
use Rattle.call_plan.proofs.plan.PlanLaws.{sent_none, sent_in, sent_not, stream_below}
use Rattle.call_plan.proofs.plan.sender_stream.Goals as goal

pub returns-in_err-i : goal.returns-in_err-i
returns-in_err-i c =
    let p = err_from_is_err_and c.from_residual.result c.from_residual.ensures.1 in
    let n = none_of c.stream_place.result _ c.ok_or.ensures.value c.in_err-i.was in
    rw (p.1, p.2, n.1) (sent_none c.args.desk c.args.sender c.args.code c.stream_place.result c.stream_place.ensures n.0)

pub overflow_mul-i : goal.overflow_mul-i
overflow_mul-i c = omega (arith, stream_below c.args.desk c.args.sender c.args.code c.stream_place.result c.stream_place.ensures (some_of c.stream_place.result _ c.ok_or.ensures.value c.in_ok-i.was))

pub overflow_add-i : goal.overflow_add-i
overflow_add-i c = omega (arith, stream_below c.args.desk c.args.sender c.args.code c.stream_place.result c.stream_place.ensures (some_of c.stream_place.result _ c.ok_or.ensures.value c.in_ok-i.was))

pub offset_bounds-streams-i : goal.offset_bounds-streams-i
offset_bounds-streams-i c = omega (arith, stream_below c.args.desk c.args.sender c.args.code c.stream_place.result c.stream_place.ensures (some_of c.stream_place.result _ c.ok_or.ensures.value c.in_ok-i.was))

pub bounds-streams-i : goal.bounds-streams-i
bounds-streams-i c = omega (arith, stream_below c.args.desk c.args.sender c.args.code c.stream_place.result c.stream_place.ensures (some_of c.stream_place.result _ c.ok_or.ensures.value c.in_ok-i.was))

pub returns-then-sender-streams : goal.returns-then-sender-streams
returns-then-sender-streams c =
    sent_not c.args.desk c.args.sender c.args.code c.stream_place.result c.stream_place.ensures (some_of c.stream_place.result _ c.ok_or.ensures.value c.in_ok-i.was) c.if-sender-streams.true

pub returns : goal.returns
returns c =
    sent_in c.args.desk c.args.sender c.args.code c.stream_place.result c.stream_place.ensures (some_of c.stream_place.result _ c.ok_or.ensures.value c.in_ok-i.was) c.if-sender-streams.false
