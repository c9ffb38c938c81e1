-- "Only a noted message is answered by a text, once": the words of this promise.
use Rattle.std.specs.Prelude.{ℕ, ◌+◌, ◌≤◌, ◌≡◌, ◌&&◌, not, cond, List, [], ◌∷◌, ◌++◌, eqb, Ok, Err}
use Rattle.codes.specs.declared.Code.{Code}
use Rattle.queue.specs.Tests.{Outcome}
use Rattle.model.specs.Answers.{Answer}
use Rattle.model.specs.Kinds.{Kind, kind_of, on_kind, is_close, own_of}
use Rattle.codes.specs.Codes.{no_code}
use Rattle.model.specs.State.{same_code, Message, Place, Entry, State, place_messages}
use Rattle.model.specs.Replies.{Reply, settlement, recall}
use Rattle.model.specs.Messages.{Acted}
use Rattle.model.specs.Days.{opening_answer}
use Rattle.model.specs.Calls.{Call, Engine, judge, begun, act, tested, replies, last_replies, call}

-- ---- a call's replies

-- a call's action, and its test
abbrev pub acted : Engine → Call → Acted
acted e c = act (begun e.state c.asked.clock) (own_of c.asked.action) c.asked.input

abbrev pub outcome : Engine → Call → Outcome
outcome e c = tested c.asked.quick (acted e c) e.memory

-- the replies of a call with a test: its action's, the test's, and at the close the last ones
abbrev pub stepped_replies : Engine → Call → List Reply
stepped_replies e c =
    let s : State = begun e.state c.asked.clock in
    cond (is_close c.asked.action)
    (replies s (acted e c) (outcome e c) ++ last_replies s (acted e c) (outcome e c))
    (replies s (acted e c) (outcome e c))

abbrev pub replies_by : Answer → Kind → Engine → Call → List Reply
replies_by (Err r) k e c = []
replies_by (Ok tt) k e c = on_kind k [] (stepped_replies e c) (λ date. [])

unfoldable pub replies_of : Engine → Call → List Reply
replies_of e c = replies_by (judge e.state c) (kind_of c.asked.action) e c

-- ---- references

-- the reference that a reply is to
abbrev pub reply_to : Reply → Code
reply_to (settlement r b o) = r
reply_to (recall r a) = r

unfoldable pub replied_to : List Reply → List Code
replied_to [] = []
replied_to (y ∷ ys) = reply_to y ∷ replied_to ys

-- how often a reference stands among some
unfoldable pub times_in : Code → List Code → ℕ
times_in r [] = 0
times_in r (c ∷ cs) = cond (same_code c r) 1 0 + times_in r cs

-- the references noted on a day
unfoldable pub noted_on : ℕ → List Entry → List Code
noted_on day [] = []
noted_on day (e ∷ es) = cond (not (same_code e.code no_code) && eqb e.day day) (e.code ∷ noted_on day es) (noted_on day es)

-- the references of some messages, and of all live messages
unfoldable pub references_of : List Message → List Code
references_of [] = []
references_of (m ∷ ms) = m.reference ∷ references_of ms

unfoldable pub awaiting_at : List Place → List Code
awaiting_at [] = []
awaiting_at (p ∷ ps) = references_of (place_messages p) ++ awaiting_at ps

-- noted on the last opened day; not yet answered
abbrev pub todays : State → List Code
todays s = noted_on s.day.date s.known.references

abbrev pub awaiting : State → List Code
awaiting s = awaiting_at s.batches.places

-- each reference noted that day stands there once, and has been answered or awaits its answer; no other has been answered
pub record Accounted (s : State) (answered : List Code) : Type 0 where
  pub each : (r : Code) → times_in r (todays s) ≡ times_in r answered + times_in r (awaiting s)
  pub once : (r : Code) → times_in r (todays s) ≤ 1

-- ---- any calls

-- the references answered since the day was opened
abbrev pub starts_anew : Answer → List Code → List Code
starts_anew (Ok tt) l = []
starts_anew (Err r) l = l

abbrev pub answers_by : Answer → Kind → Engine → Call → List Code → List Code
answers_by (Err r) k e c l = l
answers_by (Ok tt) k e c l = on_kind k (starts_anew (opening_answer e.state.day c.asked.input) l) (l ++ replied_to (stepped_replies e c)) (λ date. l)

unfoldable pub answers : Engine → Call → List Code → List Code
answers e c l = answers_by (judge e.state c) (kind_of c.asked.action) e c l

-- what was answered on the last opened day
unfoldable pub answered_after : Engine → List Code → List Call → List Code
answered_after e l [] = l
answered_after e l (c ∷ cs) = answered_after (call e c).engine (answers e c l) cs
