-- The try row never needs more than 528 numbers.
use Rattle.std.specs.Prelude.{Ok, Err}
use Prim.Native.Nat.{◌≤◌}
use mathlib.Core.Bool.{Bool, true, false, cond}
use native.Mathlib.Omega.{arith}
use lib.ListN.{length}
use Rattle.queue.specs.Tests.{Outcome}
use Rattle.queue.proofs.Promises.{tries_fit}
use Rattle.model.specs.Answers.{Answer}
use Rattle.model.specs.Kinds.{Kind, opens, steps, gives, kind_of, is_close, own_of}
use Rattle.model.specs.State.{State, payments_at}
use Rattle.model.specs.Messages.{Acted}
use Rattle.model.specs.Days.{opening_answer}
use Rattle.model.specs.Calls.{Call, Engine, judge, begun, act, woken, tested, goes_on, closes, stepped, opened_by, performed, judged, call}
use Rattle.model.proofs.Standing.{few_queued}
use Rattle.model.proofs.Keeping.{Readers, Kept, acted_stood}

module _ (readers : Readers) (e : Engine) (c : Call) (k : Kept e.state) where
  abbrev s : State
  s = begun e.state c.asked.clock

  abbrev a : Acted
  a = act s (own_of c.asked.action) c.asked.input

  abbrev o : Outcome
  o = tested c.asked.quick a e.memory

  tested_few : length o.tries ≤ 528
  unfolding tested
  tested_few = tries_fit c.asked.quick (payments_at a.batches) a.books (woken a.wakes e.memory) a.batches.queue (few_queued s.house.banks a.batches (acted_stood readers e c k))

  ends_few : (t : Bool) → length (cond t (closes s a o) (goes_on s a o)).tries ≤ 528
  unfolding closes goes_on
  ends_few true = tested_few
  ends_few false = tested_few

  stepped_few : length (stepped e c).tries ≤ 528
  unfolding stepped
  stepped_few = ends_few (is_close c.asked.action)

  opened_few : (r : Answer) → length (opened_by r e c).tries ≤ 528
  opened_few (Ok tt) = omega arith
  opened_few (Err r) = omega arith

  performed_few : (z : Kind) → length (performed z e c).tries ≤ 528
  performed_few opens = opened_few (opening_answer e.state.day c.asked.input)
  performed_few steps = stepped_few
  performed_few (gives d) = omega arith

  judged_few : (r : Answer) → length (judged r e c).tries ≤ 528
  judged_few (Ok tt) = performed_few (kind_of c.asked.action)
  judged_few (Err r) = omega arith

  pub call_tries : length (call e c).tries ≤ 528
  unfolding call
  call_tries = judged_few (judge e.state c)
