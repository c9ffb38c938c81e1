-- One call, step by step; and any number of calls from a fresh start.
use Rattle.std.specs.Prelude.{ℕ, ◌+◌, Bool, true, false, ◌&&◌, ◌||◌, not, cond, List, [], ◌∷◌, ◌++◌, map, eqb, leb, ltb, length, set, Ok, Err}
use Rattle.chars.specs.declared.Refusal.{Refusal}
use Rattle.chars.specs.declared.Refusal.TheVariants.{WrongMoment, ShortBuffer}
use Rattle.dates.specs.Dates.{day_of}
use Rattle.clock.specs.Clock.{seconds_of_day}
use Rattle.request_read.specs.whole.Request.{request_at}
use Rattle.queue.specs.Memory.{wake, forgotten}
use Rattle.queue.specs.Tests.{Outcome, test, fuel}
use Rattle.model.specs.Answers.{Answer}
use Rattle.model.specs.declared.Phase.{Phase}
use Rattle.model.specs.declared.Phase.TheVariants.{Fresh, Open, Closed}
use Rattle.model.specs.declared.Action.{Action}
use Rattle.model.specs.State.{Day, Batches, State, fresh, no_memory, no_batches, payments_at, with_clock, with_texts, with_phase}
use Rattle.model.specs.Replies.{Reply, texts_from}
use Rattle.model.specs.Kinds.{Kind, kind_of, on_kind, is_opening, is_close, Own, receives, changes_sublimit, changes_status, nothing, own_of}
use Rattle.model.specs.Joining.{join}
use Rattle.model.specs.Messages.{Acted, Waking, bank, place, message, leaving}
use Rattle.model.specs.Changes.{sub_limit, status}
use Rattle.model.specs.Ending.{after_test, settled_replies, close_replies}
use Rattle.model.specs.Days.{opened, opening_answer, right_date, closing_text}

-- what a call asks: its test, the clock, its action; `input` is the text or the book
pub record Asked : Type 0 where
  pub quick : Bool
  pub clock : ℕ
  pub action : Action
  pub input : List ℕ

-- "Each engine call but clearing carries the clock in seconds, an output buffer and a try row": of these two the model has the lengths,
-- `room` and `rows`
pub record Call : Type 0 where
  pub asked : Asked
  pub room : ℕ
  pub rows : ℕ

-- the state, and the quick test's memory beside it
pub record Engine : Type 0 where
  pub state : State
  pub memory : List ℕ

-- what comes back: the answer, the bytes written from the buffer's beginning, the tries from the row's beginning
pub record Result : Type 0 where
  pub answer : Answer
  pub out : List ℕ
  pub tries : List ℕ
  pub engine : Engine

-- ---- 05 and 07

-- "clock not in 0 to 86,399 or before the last one (an opening sets the clock anew)"
abbrev pub right_clock : Action → Day → ℕ → Bool
right_clock a d clock = ltb clock seconds_of_day && (is_opening a || leb d.clock clock)

abbrev pub is_open : Phase → Bool
is_open Fresh = false
is_open Open = true
is_open Closed = false

abbrev pub is_closed : Phase → Bool
is_closed Fresh = false
is_closed Open = false
is_closed Closed = true

-- "day not open (an opening wants a fresh start or a closed day, a closing book a closed day), a closing book's date not true, ..
-- not later than the last opened day's"
abbrev pub day_for : Kind → Day → Bool
day_for k d = on_kind k (not (is_open d.phase)) (is_open d.phase) (λ date. is_closed d.phase && right_date d (day_of date))

abbrev pub right_day : Action → Day → Bool
right_day a d = day_for (kind_of a) d

-- "output buffer under 33,705 bytes (closing book: under its own length)"
abbrev pub most_written : ℕ
most_written = 33705

abbrev pub room_for : Kind → State → ℕ
room_for k s = on_kind k most_written most_written (λ date. length (closing_text s date))

abbrev pub room_needed : Action → State → ℕ
room_needed a s = room_for (kind_of a) s

-- "try row under 528 numbers"
abbrev pub rows_needed : ℕ
rows_needed = 528

-- "06, then 05, then 07, come before all others in every engine call"; the tables' own test is beside this one
unfoldable pub judge : State → Call → Answer
judge s c =
    cond (right_clock c.asked.action s.day c.asked.clock && right_day c.asked.action s.day)
    (cond (leb (room_needed c.asked.action s) c.room && leb rows_needed c.rows) (Ok tt) (Err ShortBuffer))
    (Err WrongMoment)

-- ---- (a), (b), (c), (d)

-- (a) the clock moves; (b) pending batches join
unfoldable pub begun : State → ℕ → State
begun s clock = record {
  day = with_clock s.day clock;
  house = s.house;
  books = s.books;
  batches = join clock s.batches;
  known = s.known;
}

-- (c) the call's own action
unfoldable pub act : State → Own → List ℕ → Acted
act s (receives sender) input = message s sender (request_at input)
act s (changes_sublimit code cents) input = sub_limit s code cents
act s (changes_status code bin letter) input = status s code bin letter
act s nothing input = leaving s (Ok tt) [] [] s.batches s.known

-- what an action wakes
abbrev pub woke : Waking → List ℕ → List ℕ
woke (bank k) m = map (wake (eqb k)) m
woke (place p) m = set m p 0

unfoldable pub woken : List Waking → List ℕ → List ℕ
woken [] m = m
woken (w ∷ ws) m = woken ws (woke w m)

-- (d) the queue test
unfoldable pub tested : Bool → Acted → List ℕ → Outcome
tested quick a m = test quick (payments_at a.batches) (fuel a.batches.queue) a.books (woken a.wakes m) a.batches.queue

module _ (s : State) (a : Acted) (o : Outcome) where
  -- the texts of the action and of the test
  unfoldable pub replies : List Reply
  replies = a.replies ++ settled_replies s.day a.batches o.done

  unfoldable pub left : Batches
  left = after_test a.batches o.queue o.done

  -- "The close runs (a), (b), (d), then ends each live batch with 86"
  unfoldable pub last_replies : List Reply
  last_replies = close_replies s.day.date left a.known.bins

  abbrev pub written : Day → List Reply → Day
  written d rs = with_texts d (d.texts + length rs)

  unfoldable pub goes_on : Result
  goes_on = record {
    answer = a.answer;
    out = texts_from s.day.texts replies;
    tries = o.tries;
    engine = record {
      state = record { day = written s.day replies; house = s.house; books = o.books; batches = left; known = a.known };
      memory = forgotten o.done o.memory;
    };
  }

  unfoldable pub closes : Result
  closes = record {
    answer = a.answer;
    out = texts_from s.day.texts (replies ++ last_replies);
    tries = o.tries;
    engine = record {
      state = record {
        day = with_phase (written s.day (replies ++ last_replies)) Closed;
        house = s.house;
        books = o.books;
        batches = no_batches;
        known = a.known;
      };
      memory = no_memory;
    };
  }

-- an engine and what it is left by a call that is refused before all others: "nothing changed"
abbrev pub refused : Engine → Refusal → Result
refused e r = record { answer = Err r; out = []; tries = []; engine = e }

unfoldable pub stepped : Engine → Call → Result
stepped e c =
    let s : State = begun e.state c.asked.clock in
    let a : Acted = act s (own_of c.asked.action) c.asked.input in
    let o : Outcome = tested c.asked.quick a e.memory in
    cond (is_close c.asked.action) (closes s a o) (goes_on s a o)

-- ---- opening and closing book

abbrev pub opened_by : Answer → Engine → Call → Result
opened_by (Ok tt) e c = record {
  answer = Ok tt;
  out = [];
  tries = [];
  engine = record { state = opened e.state c.asked.clock c.asked.input; memory = e.memory };
}
opened_by (Err r) e c = refused e r

abbrev pub book_given : Engine → Call → ℕ → Result
book_given e c date = record {
  answer = Ok tt;
  out = closing_text e.state date;
  tries = [];
  engine = record {
    state = record {
      day = with_clock e.state.day c.asked.clock;
      house = e.state.house;
      books = e.state.books;
      batches = e.state.batches;
      known = e.state.known;
    };
    memory = e.memory;
  };
}

abbrev pub performed : Kind → Engine → Call → Result
performed k e c = on_kind k (opened_by (opening_answer e.state.day c.asked.input) e c) (stepped e c) (book_given e c)

abbrev pub judged : Answer → Engine → Call → Result
judged (Ok tt) e c = performed (kind_of c.asked.action) e c
judged (Err r) e c = refused e r

-- one call on tables that keep the rules
unfoldable pub call : Engine → Call → Result
call e c = judged (judge e.state c) e c

-- "Clearing .. is a fresh start"
abbrev pub cleared : Engine
cleared = record { state = fresh; memory = no_memory }

-- any calls, one after another
unfoldable pub run : Engine → List Call → List Result
run e [] = []
run e (c ∷ cs) = let r : Result = call e c in r ∷ run r.engine cs
