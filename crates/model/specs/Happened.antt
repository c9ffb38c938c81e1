-- What has happened, call by call, as the omission rule looks back on it: told by the calls and what becomes of the batches, and by no memory.
use Rattle.std.specs.Prelude.{ℕ, zero, suc, ◌≡◌, Bool, true, false, cond, List, [], ◌∷◌, ◌++◌, Ok, Err}
use Rattle.queue.specs.History.{Event, sublimit_changed, changed, tried_events, Tries}
use Rattle.model.specs.Answers.{Answer}
use Rattle.model.specs.Kinds.{Kind, opens, steps, gives, kind_of, on_kind, Own, receives, changes_sublimit, changes_status, nothing, own_of}
use Rattle.model.specs.State.{on_found, Place, free, live, Batches, State, place_at, payments_at}
use Rattle.model.specs.Messages.{bank_place, waiting}
use Rattle.model.specs.Calls.{Call, Engine, Result, judge, begun, call}
use Rattle.model.specs.Answered.{acted}

-- "no accepted sub-limit change, and the batch no accepted status change": what an action that is accepted says of a bank or of a batch
abbrev pub accepted : State → Own → Answer → List Event
accepted s x (Err r) = []
accepted s (receives sender) (Ok tt) = []
accepted s (changes_sublimit code cents) (Ok tt) = on_found (bank_place s.house code) [] (λ k. sublimit_changed k ∷ [])
accepted s (changes_status code bin letter) (Ok tt) = on_found (waiting s.batches bin) [] (λ p. changed p ∷ [])
accepted s nothing (Ok tt) = []

-- a place that was ended or newly filled begins anew: among the first n those where a batch stands in one and none in the other
abbrev pub is_anew : Place → Place → Bool
is_anew free free = false
is_anew free (live b) = true
is_anew (live b) free = true
is_anew (live b) (live c) = false

unfoldable pub anew : ℕ → Batches → Batches → List Event
anew zero b c = []
anew (suc n) b c = cond (is_anew (place_at b n) (place_at c n)) (changed n ∷ []) [] ++ anew n b c

module _ (e : Engine) (c : Call) where
  -- what a call's action adds, the newest first
  unfoldable pub acted_events : List Event
  acted_events =
      let s : State = begun e.state c.asked.clock in
      accepted s (own_of c.asked.action) (acted e c).answer ++ anew 32 s.batches (acted e c).batches

  -- and its tries, and the places that these end; the close ends all
  abbrev pub stepped_events : Result → List Event
  stepped_events r =
      anew 32 (acted e c).batches r.engine.state.batches
      ++ (tried_events c.asked.quick (payments_at (acted e c).batches) (acted e c).books r.tries ++ acted_events)

  abbrev pub events_by : Answer → Kind → Result → List Event
  events_by (Err q) k r = []
  events_by (Ok tt) k r = on_kind k [] (stepped_events r) (λ date. [])

-- what has happened after some calls, `es` being what happened before them
unfoldable pub history : Engine → List Event → List Call → List Event
history e es [] = es
history e es (c ∷ cs) = history (call e c).engine (events_by e c (judge e.state c) (kind_of c.asked.action) (call e c) ++ es) cs

-- the tries of a call are those of the test that it chose, on the batches and accounts that its action left: "Plain: from the head, try each ..",
-- "Quick: .. A later try is omitted exactly if ..". The accounts are those that the settled batches leave
pub record TriesByRule (e : Engine) (es : List Event) (c : Call) (r : Result) : Type 0 where
  pub queue : List ℕ
  pub tries : Tries c.asked.quick (payments_at (acted e c).batches) (acted_events e c ++ es) (acted e c).books [] (acted e c).batches.queue false
      r.tries r.engine.state.books queue

abbrev pub ByRuleIn : Answer → Kind → Engine → List Event → Call → Result → Type 0
ByRuleIn (Err q) k e es c r = r.tries ≡ []
ByRuleIn (Ok tt) opens e es c r = r.tries ≡ []
ByRuleIn (Ok tt) steps e es c r = TriesByRule e es c r
ByRuleIn (Ok tt) (gives date) e es c r = r.tries ≡ []

abbrev pub ByRule : Engine → List Event → Call → Result → Type 0
ByRule e es c r = ByRuleIn (judge e.state c) (kind_of c.asked.action) e es c r
