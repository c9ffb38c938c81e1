-- What a call is before it is performed.
use Rattle.std.specs.Prelude.{ℕ, List, length, Ok}
use Rattle.model.specs.declared.Action.{Action}
use Rattle.model.specs.Kinds.{Kind, opens, steps, gives}
use Rattle.tables.specs.declared.Desk.{Desk}
use Rattle.tables.specs.Rows.{Tables}
use Rattle.tables.specs.Lent.{Right}
use Rattle.tables.specs.Moment.{Judged}
use Rattle.call.specs.declared.entry.Kind.{Kind as Told}
use Rattle.call.specs.declared.entry.Kind.TheVariants.{Opens, Steps, Gives}

-- a kind of action in the code, as the model says it
abbrev pub kind_by : Told → Kind
kind_by Opens = opens
kind_by Steps = steps
kind_by (Gives date) = gives date

-- neither 06 nor 05 nor 07
pub record Performable (d : Desk) (t : Tables) (clock : ℕ) (a : Action) (out tries : List ℕ) : Type 0 where
  pub right : Right d t
  pub judged : Judged d clock a (length out) (length tries) (Ok tt)
