-- Wrong engines: what each does in place of `call`.
use Rattle.std.specs.Prelude.{ℕ, Bool, cond, List, [], Ok, Err}
use Rattle.chars.specs.declared.Refusal.{Refusal}
use Rattle.queue.specs.Tests.{Outcome, nothing_tried}
use Rattle.model.specs.Answers.{Answer}
use Rattle.model.specs.Kinds.{Kind, kind_of, on_kind, is_close, Own, own_of}
use Rattle.model.specs.State.{State}
use Rattle.model.specs.Messages.{Acted}
use Rattle.model.specs.Days.{opening_answer}
use Rattle.model.specs.Calls.{Call, Engine, Result, judge, begun, act, woken, tested, goes_on, closes, refused, opened_by, book_given, call}

-- one that refuses all, with any numbers, whatever else it does as f
abbrev pub refusing : (Engine → Call → Result) → (Engine → Call → Refusal) → Engine → Call → Result
refusing f q e c = record { answer = Err (q e c); out = (f e c).out; tries = (f e c).tries; engine = (f e c).engine }

-- one that answers 0 to all
abbrev pub agreeing : (Engine → Call → Result) → Engine → Call → Result
agreeing f e c = record { answer = Ok tt; out = (f e c).out; tries = (f e c).tries; engine = (f e c).engine }

-- a call that does nothing, whatever it answers
abbrev pub doing_nothing : (Engine → Call → Answer) → Engine → Call → Result
doing_nothing a e c = record { answer = a e c; out = []; tries = []; engine = e }

-- the engine with a try list that it makes up from the call, whatever waits
abbrev pub inventing : (Call → List ℕ) → Engine → Call → Result
inventing l e c = record { answer = (call e c).answer; out = (call e c).out; tries = l c; engine = (call e c).engine }

-- the engine with an action or a test of its own
module _ (acting : State → Own → List ℕ → Acted) (testing : Bool → Acted → List ℕ → Outcome) where
  abbrev pub stepped_by : Engine → Call → Result
  stepped_by e c =
      let s : State = begun e.state c.asked.clock in
      let a : Acted = acting s (own_of c.asked.action) c.asked.input in
      let o : Outcome = testing c.asked.quick a e.memory in
      cond (is_close c.asked.action) (closes s a o) (goes_on s a o)

  abbrev pub performed_by : Kind → Engine → Call → Result
  performed_by k e c = on_kind k (opened_by (opening_answer e.state.day c.asked.input) e c) (stepped_by e c) (book_given e c)

  abbrev pub judged_by : Answer → Engine → Call → Result
  judged_by (Ok tt) e c = performed_by (kind_of c.asked.action) e c
  judged_by (Err r) e c = refused e r

  abbrev pub call_by : Engine → Call → Result
  call_by e c = judged_by (judge e.state c) e c

abbrev pub call_with : (Bool → Acted → List ℕ → Outcome) → Engine → Call → Result
call_with testing = call_by act testing

abbrev pub call_acting : (State → Own → List ℕ → Acted) → Engine → Call → Result
call_acting acting = call_by acting tested

-- a test that never settles
abbrev pub never : Bool → Acted → List ℕ → Outcome
never quick a m = nothing_tried a.books (woken a.wakes m) a.batches.queue
