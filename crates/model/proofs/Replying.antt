-- The bytes of a call are its replies' texts, numbered on from those written today, or the closing book.
use Rattle.std.specs.Prelude.{Ok, Err}
use mathlib.Core.Path.{◌≡◌, refl}
use mathlib.Core.Bool.{Bool, true, false, cond}
use mathlib.Core.List.{[], ◌++◌}
use Rattle.queue.specs.Tests.{Outcome}
use Rattle.model.specs.Answers.{Answer}
use Rattle.model.specs.Kinds.{Kind, opens, steps, gives, kind_of, is_close}
use Rattle.model.specs.State.{State}
use Rattle.model.specs.Replies.{texts_from}
use Rattle.model.specs.Messages.{Acted}
use Rattle.model.specs.Days.{opening_answer}
use Rattle.model.specs.Calls.{Call, Engine, judge, begun, replies, last_replies, goes_on, closes, stepped, opened_by, performed, judged, call}
use Rattle.model.specs.Answered.{acted, outcome, stepped_replies}
use Rattle.model.specs.Promises.{out_by, out_of}

module _ (e : Engine) (c : Call) where
  ends_out : (t : Bool) (s : State) (a : Acted) (o : Outcome) → s.day.texts ≡ e.state.day.texts
      → (cond t (closes s a o) (goes_on s a o)).out ≡ texts_from e.state.day.texts (cond t (replies s a o ++ last_replies s a o) (replies s a o))
  unfolding closes goes_on
  ends_out true s a o d = rw d
  ends_out false s a o d = rw d

  stepped_out : (stepped e c).out ≡ texts_from e.state.day.texts (stepped_replies e c)
  unfolding stepped begun
  stepped_out = ends_out (is_close c.asked.action) (begun e.state c.asked.clock) (acted e c) (outcome e c) refl

  opened_out : (r : Answer) → (opened_by r e c).out ≡ []
  opened_out (Ok tt) = refl
  opened_out (Err r) = refl

  performed_out : (z : Kind) → (performed z e c).out ≡ out_by (Ok tt) z e c
  performed_out opens = opened_out (opening_answer e.state.day c.asked.input)
  performed_out steps = stepped_out
  performed_out (gives d) = refl

  judged_out : (r : Answer) → (judged r e c).out ≡ out_by r (kind_of c.asked.action) e c
  judged_out (Ok tt) = performed_out (kind_of c.asked.action)
  judged_out (Err r) = refl

  pub out_is : (call e c).out ≡ out_of e c
  unfolding call out_of
  out_is = judged_out (judge e.state c)
