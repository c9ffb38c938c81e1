-- "(a) the clock moves; (b) pending batches join; (c) the call's own action; (d) the queue test", on the lent rows.
use Rattle.std.specs.Prelude.{ℕ, ◌≤◌, ◌<◌, ◌≡◌, List, length}
use Rattle.model.specs.Answers.{Answer}
use Rattle.model.specs.declared.Action.{Action}
use Rattle.model.specs.declared.Phase.{Phase}
use Rattle.model.specs.declared.Phase.TheVariants.{Open}
use Rattle.model.specs.Kinds.{kind_of, steps}
use Rattle.model.specs.Calls.{most_written, rows_needed}
use Rattle.tables.specs.declared.Desk.{Desk}
use Rattle.tables.specs.Rows.{Tables}
use Rattle.tables.specs.Lent.{Right, Lent, Left}

-- tables of an open day at a moment of it, with room for what a call writes
pub record Steppable (d : Desk) (t : Tables) (clock : ℕ) (x : Action) (out r : List ℕ) : Type 0 where
  pub right : Right d t
  pub phase : d.phase ≡ Open
  pub moment : clock < 86400
  pub kind : kind_of x ≡ steps
  pub room : most_written ≤ length out
  pub rows : rows_needed ≤ length r

-- all that is lent, and what a call leaves of it
abbrev pub lent_as : Desk → Tables → (out tries : List ℕ) → Lent
lent_as d t out tries = record { desk = d; tables = t; out = out; tries = tries }

abbrev pub left_as : Answer → (written tried : ℕ) → Desk → Tables → (out tries : List ℕ) → Left
left_as answer written tried d t out tries = record { answer = answer; written = written; tried = tried; lent = lent_as d t out tries }

-- the desk after a call's texts, in a phase
abbrev pub desk_after : Phase → (texts : ℕ) → Desk → Desk
desk_after phase texts d = record {
  phase = phase;
  date = d.date;
  clock = d.clock;
  texts = texts;
  banks = d.banks;
  streams = d.streams;
  n = d.n;
}
