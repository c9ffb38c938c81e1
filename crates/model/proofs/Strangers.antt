-- "Letting a stranger's message end another administrator's batch": a message of a sender that is not the stream's administrator leaves
-- what a tick at its clock leaves. Only its answer differs.
use Rattle.std.specs.Prelude.{Ok, Err}
use Prim.Native.Nat.{ℕ}
use mathlib.Core.Path.{◌≡◌, refl}
use mathlib.Core.Bool.{Bool, true, false, cond}
use mathlib.Core.List.{[]}
use lib.Dec.{eqb}
use borrow.Author.Tests.{eqb-true}
use Rattle.chars.specs.declared.Refusal.{Refusal}
use Rattle.chars.specs.declared.Refusal.TheVariants.{WrongSender, Malformed}
use Rattle.request_read.specs.whole.Request.{request_at}
use Rattle.request_read.specs.declared.whole.Outcome.{Outcome as Read}
use Rattle.request_read.specs.declared.whole.Outcome.TheVariants.{Settlement, Recall, Refused as Unread}
use Rattle.request_read.specs.declared.whole.Reading.{Reading}
use Rattle.model.specs.Answers.{Answer}
use Rattle.model.specs.declared.Action.{Action}
use Rattle.model.specs.declared.Action.TheVariants.{Opening, Message, SubLimit, Status, Tick, Close, ClosingBook}
use Rattle.model.specs.Kinds.{receives, changes_sublimit, changes_status, own_of}
use Rattle.model.specs.State.{Found, at, nowhere, on_found, State}
use Rattle.model.specs.Messages.{SubType, is131, is133, Acted, stream_code, stream_place, administrator, untouched, leaving, is_broken_part, broken_part, on_text, on_sender, message}
use Rattle.model.specs.Calls.{Call, Engine, Result, judge, begun, act, tested, replies, left, goes_on, stepped, judged, call}
use Rattle.model.specs.Promises.{Alike, Stranger, asking}

-- a message, a sub-limit change or a status change
abbrev pub Asks : Action → Type 0
Asks Opening = ⊥
Asks (Message n) = Unit {0}
Asks (SubLimit k v) = Unit {0}
Asks (Status k b l) = Unit {0}
Asks Tick = ⊥
Asks Close = ⊥
Asks (ClosingBook d) = ⊥

-- an action that touches nothing
pub record Idle (s : State) (a : Acted) : Type 0 where
  pub fault : Refusal
  pub same : a ≡ untouched s fault

module _ (s : State) (sender : ℕ) (r : Reading) (h : Stranger s sender r) where
  by_stream : {k : ℕ → Acted} (f : Found) → stream_place s.house (stream_code s r) ≡ f → ((i : ℕ) → stream_place s.house (stream_code s r) ≡ at i → Idle s (k i))
      → Idle s (on_found f (untouched s Malformed) k)
  by_stream (at i) e g = g i e
  by_stream nowhere e g = record { fault = Malformed; same = refl }

  by_sender : {x y : Acted} (t : Bool) → (t ≡ true → Idle s x) → Idle s y → Idle s (cond t x y)
  by_sender true g i = g refl
  by_sender false g i = i

  sent_idle : (next : ℕ → Acted) → Idle s (on_sender s r sender next)
  unfolding on_sender
  sent_idle next = by_stream (stream_place s.house (stream_code s r)) refl
      (λ i e. by_sender (eqb sender (administrator s.house i)) (λ y. absurd (h i e (eqb-true sender (administrator s.house i) y))) (record { fault = WrongSender; same = refl }))

  idle_found : {d : Acted} {k : ℕ → Acted} (f : Found) → stream_place s.house (stream_code s r) ≡ f → Idle s d → ((i : ℕ) → stream_place s.house (stream_code s r) ≡ at i → Idle s (k i))
      → Idle s (on_found f d k)
  idle_found (at i) e d g = g i e
  idle_found nowhere e d g = d

  part_idle : (f : Refusal) → Idle s (broken_part s r sender f)
  unfolding broken_part
  part_idle f = idle_found (stream_place s.house (stream_code s r)) refl (record { fault = f; same = refl })
      (λ i e. by_sender (eqb sender (administrator s.house i)) (λ y. absurd (h i e (eqb-true sender (administrator s.house i) y))) (record { fault = f; same = refl }))

  text_idle : {next : SubType → Acted} (o : Read) → ((t : SubType) → Idle s (next t)) → Idle s (on_text s r sender o next)
  text_idle Settlement f = f is131
  text_idle Recall f = f is133
  text_idle (Unread b) f = by_sender (is_broken_part r.head b) (λ _. part_idle b.refusal) (record { fault = b.refusal; same = refl })

  pub strangers_touch_nothing : Idle s (message s sender r)
  unfolding message
  strangers_touch_nothing = text_idle r.outcome (λ t. sent_idle _)

module _ (e : Engine) (c : Call) where
  abbrev s : State
  s = begun e.state c.asked.clock

  abbrev step : Acted → Result
  step a = goes_on s a (tested c.asked.quick a e.memory)

  idle_alike : (f : Refusal) → Alike (step (untouched s f)) (step (leaving s (Ok tt) [] [] s.batches s.known))
  unfolding goes_on replies left tested
  idle_alike f = record { out = refl; tries = refl; engine = refl }

  stepped_alike : (a : Acted) → Idle s a → Alike (step a) (step (leaving s (Ok tt) [] [] s.batches s.known))
  stepped_alike a i = rw i.same (idle_alike i.fault)

  -- an action of a message or a change that touches nothing
  judged_alike : (j : Answer) (x : Action) → Asks x → Idle s (act s (own_of x) c.asked.input) → Alike (judged j e (asking x c)) (judged j e (asking Tick c))
  unfolding stepped act
  judged_alike (Ok tt) (Message n) k h = stepped_alike (act s (receives n) c.asked.input) h
  judged_alike (Ok tt) (SubLimit n v) k h = stepped_alike (act s (changes_sublimit n v) c.asked.input) h
  judged_alike (Ok tt) (Status n b l) k h = stepped_alike (act s (changes_status n b l) c.asked.input) h
  judged_alike (Err r) x k h = record { out = refl; tries = refl; engine = refl }
  judged_alike (Ok tt) Opening k h = elim k [ ]
  judged_alike (Ok tt) Tick k h = elim k [ ]
  judged_alike (Ok tt) Close k h = elim k [ ]
  judged_alike (Ok tt) (ClosingBook _) k h = elim k [ ]

  same_judge : (x : Action) → Asks x → judge e.state (asking x c) ≡ judge e.state (asking Tick c)
  unfolding judge
  same_judge (Message n) k = refl
  same_judge (SubLimit n v) k = refl
  same_judge (Status n b l) k = refl
  same_judge Opening k = elim k [ ]
  same_judge Tick k = elim k [ ]
  same_judge Close k = elim k [ ]
  same_judge (ClosingBook _) k = elim k [ ]

  pub idle_is_a_tick : (x : Action) → Asks x → Idle s (act s (own_of x) c.asked.input) → Alike (call e (asking x c)) (call e (asking Tick c))
  unfolding call
  idle_is_a_tick x k h = rw (same_judge x k) (judged_alike (judge e.state (asking Tick c)) x k h)

  pub a_stranger_is_a_tick : (sender : ℕ) → Stranger s sender (request_at c.asked.input) → Alike (call e (asking (Message sender) c)) (call e (asking Tick c))
  unfolding act
  a_stranger_is_a_tick sender h = idle_is_a_tick (Message sender) tt (strangers_touch_nothing s sender (request_at c.asked.input) h)
