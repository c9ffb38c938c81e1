-- 05 and 07 from the day's scalars alone.
use Rattle.std.specs.Prelude.{ℕ, ◌≡◌, Bool, ◌&&◌, List, leb}
use Rattle.model.specs.Answers.{Answer}
use Rattle.model.specs.declared.Action.{Action}
use Rattle.model.specs.State.{Day}
use Rattle.model.specs.Calls.{Call, room_needed, rows_needed, judge}
use Rattle.tables.specs.declared.Desk.{Desk}
use Rattle.tables.specs.Rows.{Tables, batches_in, state_in}
use Rattle.tables.specs.Words.{sheet_words}

-- the day of a desk
abbrev pub day_on : Desk → Day
day_on d = record { phase = d.phase; date = d.date; clock = d.clock; texts = d.texts }

-- (a) the clock moves
abbrev pub moved_to : Desk → ℕ → Desk
moved_to d clock = record {
  phase = d.phase;
  date = d.date;
  clock = clock;
  texts = d.texts;
  banks = d.banks;
  streams = d.streams;
  n = d.n;
}

-- what a call is told of itself before it acts
abbrev pub call_for : Bool → ℕ → Action → List ℕ → (room rows : ℕ) → Call
call_for quick clock action input room rows =
    record { asked = record { quick = quick; clock = clock; action = action; input = input }; room = room; rows = rows }

-- neither needs the tables: the length of a closing book is that of its banks
pub record Needs (d : Desk) (a : Action) (room : ℕ) : Type 0 where
  pub is : (t : Tables) → room ≡ room_needed a (state_in d t)

-- 07 where this is not
pub record Roomy (d : Desk) (a : Action) (room rows : ℕ) (r : Bool) : Type 0 where
  pub is : (t : Tables) → r ≡ (leb (room_needed a (state_in d t)) room && leb rows_needed rows)

-- the model's judgement of the state, whatever else the tables hold, whichever test and input the call has
pub record Judged (d : Desk) (clock : ℕ) (a : Action) (room rows : ℕ) (r : Answer) : Type 0 where
  pub is : (t : Tables) (quick : Bool) (input : List ℕ) → r ≡ judge (state_in d t) (call_for quick clock a input room rows)

-- tables of given rows
abbrev pub lent_on : (codes flags balances sublimits batches references bins sheet : List ℕ) → Tables
lent_on codes flags balances sublimits batches references bins sheet = record {
  codes = codes;
  flags = flags;
  balances = balances;
  sublimits = sublimits;
  batches = batches;
  references = references;
  bins = bins;
  sheet = sheet;
}

-- with the sheet that the batches say
abbrev pub lent_with : (codes flags balances sublimits batches references bins : List ℕ) → Tables
lent_with codes flags balances sublimits batches references bins =
    lent_on codes flags balances sublimits batches references bins (sheet_words (batches_in batches))
