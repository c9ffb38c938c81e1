-- The output never needs more than 33,705 bytes; a closing book no more than its own length.
use Rattle.std.specs.Prelude.{Ok, Err}
use Prim.Native.Nat.{◌+◌, ◌≤◌, ◌<◌}
use mathlib.Core.Path.{◌≡◌, refl}
use mathlib.Core.Bool.{Bool, true, false, cond}
use mathlib.Core.List.{◌++◌}
use native.Mathlib.Omega.{arith}
use lib.ListN.{length, length-append}
use Rattle.request_read.specs.whole.Request.{request_at}
use Rattle.queue.specs.Tests.{Outcome}
use Rattle.book_read.specs.Range.{Each}
use Rattle.model.specs.Answers.{Answer}
use Rattle.model.specs.Kinds.{Kind, opens, steps, gives, kind_of, is_close, own_of}
use Rattle.model.specs.State.{State}
use Rattle.model.specs.Messages.{Acted}
use Rattle.model.specs.Ending.{settled_replies}
use Rattle.model.specs.Days.{opening_answer}
use Rattle.model.specs.Calls.{Call, Engine, room_needed, judge, begun, act, tested, replies, left, last_replies, goes_on, closes, stepped, opened_by, performed, judged, call, day_for, room_for}
use Rattle.model.specs.Rules.{Opened, Valid}
use Rattle.model.proofs.Agreement.{right_day_lem}
use Rattle.model.proofs.Doing.{did}
use Rattle.model.proofs.Settling.{each_append}
use Rattle.model.proofs.Keeping.{Readers, begun_stood, acted_stood, tested_stood}
use Rattle.model.proofs.Fitting.{Fits, texts_fit, acted_fit, settled_fit, close_fit, few_messages}
use Rattle.model.proofs.Validity.{k, right_clock_lem, open_in, acted_counted, left_answered, close_answered}

module _ (readers : Readers) (e : Engine) (c : Call) (v : Valid e.state) where
  abbrev s : State
  s = begun e.state c.asked.clock

  abbrev a : Acted
  a = act s (own_of c.asked.action) c.asked.input

  abbrev o : Outcome
  o = tested c.asked.quick a e.memory

  last_right : Each (λ y. Fits y) (last_replies s a o)
  unfolding last_replies
  last_right = close_fit s.house.banks (left s a o) (tested_stood readers e c (k readers e c v)) _ a.known.bins

  module _ (h : Opened e.state) (t : c.asked.clock < 86400) where
    replies_right : Each (λ y. Fits y) (replies s a o)
    unfolding replies begun
    replies_right =
        each_append s.house.banks (λ y. Fits y) a.replies (settled_replies s.day a.batches o.done)
        (acted_fit s (begun_stood readers e c (k readers e c v)) (request_at c.asked.input) (readers.texts c.asked.input) (did s (own_of c.asked.action) c.asked.input))
        (settled_fit s.house.banks a.batches (acted_stood readers e c (k readers e c v)) s.day h.date t o.done)

    -- all replies of a call with a test have values that a text can hold
    pub stepped_right : (u : Bool) → Each (λ y. Fits y) (cond u (replies s a o ++ last_replies s a o) (replies s a o))
    stepped_right true = each_append s.house.banks (λ y. Fits y) (replies s a o) (last_replies s a o) replies_right last_right
    stepped_right false = replies_right

    -- "at most 321 texts"
    pub few_texts : length (replies s a o) + length (last_replies s a o) ≤ 321
    few_texts =
        let n = acted_counted readers e c v h in
        omega (arith, left_answered readers e c v h, close_answered readers e c v h, n.few, few_messages s.house.banks s.batches (begun_stood readers e c (k readers e c v)))

    ends_out : (u : Bool) → length (cond u (closes s a o) (goes_on s a o)).out ≤ 33705
    unfolding closes goes_on
    ends_out true =
        omega (
          arith,
          few_texts,
          length-append (replies s a o) (last_replies s a o),
          texts_fit s.day.texts (replies s a o ++ last_replies s a o) (stepped_right true),
        )
    ends_out false = omega (arith, few_texts, texts_fit s.day.texts (replies s a o) replies_right)

    stepped_out : length (stepped e c).out ≤ 33705
    unfolding stepped
    stepped_out = ends_out (is_close c.asked.action)

  opened_out : (r : Answer) → length (opened_by r e c).out ≤ 33705
  opened_out (Ok tt) = omega arith
  opened_out (Err r) = omega arith

  performed_out : (z : Kind) → c.asked.clock < 86400 → day_for z e.state.day ≡ true → length (performed z e c).out ≤ room_for z e.state
  performed_out opens t i = opened_out (opening_answer e.state.day c.asked.input)
  performed_out steps t i = stepped_out (open_in e.state e.state.day.phase v i) t
  performed_out (gives d) t i = omega arith

  judged_out : (r : Answer) → judge e.state c ≡ r → length (judged r e c).out ≤ room_needed c.asked.action e.state
  judged_out (Ok tt) i = performed_out (kind_of c.asked.action) (right_clock_lem e.state c i) (right_day_lem e.state c i)
  judged_out (Err r) i = omega arith

  -- what a call writes is no more than what it asked room for
  pub call_out : length (call e c).out ≤ room_needed c.asked.action e.state
  unfolding call
  call_out = judged_out (judge e.state c) refl
