-- Three kinds of action: one opens the day with a book, one gives a book, and all others take the steps (a) to (d). And what a call with steps
-- does of its own.
use Rattle.std.specs.Prelude.{ℕ, Bool, true, false}
use Rattle.codes.specs.declared.Code.{Code}
use Rattle.model.specs.declared.Action.{Action}
use Rattle.model.specs.declared.Action.TheVariants.{Opening, Message, SubLimit, Status, Tick, Close, ClosingBook}

pub data Kind : Type 0 where
  opens : Kind
  steps : Kind
  gives : (date : ℕ) → Kind

abbrev pub kind_of : Action → Kind
kind_of Opening = opens
kind_of (Message n) = steps
kind_of (SubLimit k c) = steps
kind_of (Status k b l) = steps
kind_of Tick = steps
kind_of Close = steps
kind_of (ClosingBook date) = gives date

-- one thing for an opening, one for the steps, one for a book that is given
abbrev pub on_kind : {A : Type 0} → Kind → A → A → ((date : ℕ) → A) → A
on_kind opens o s g = o
on_kind steps o s g = s
on_kind (gives date) o s g = g date

abbrev pub is_opens : Kind → Bool
is_opens k = on_kind k true false (λ date. false)

abbrev pub is_opening : Action → Bool
is_opening a = is_opens (kind_of a)

abbrev pub is_close : Action → Bool
is_close Opening = false
is_close (Message n) = false
is_close (SubLimit k c) = false
is_close (Status k b l) = false
is_close Tick = false
is_close Close = true
is_close (ClosingBook date) = false

-- "(c) the call's own action": a message, a sub-limit change, a status change; a tick and the close do nothing of their own
pub data Own : Type 0 where
  receives : (sender : ℕ) → Own
  changes_sublimit : (code cents : ℕ) → Own
  changes_status : (code : ℕ) (bin : Code) (letter : ℕ) → Own
  nothing : Own

-- a call without steps has none
abbrev pub own_of : Action → Own
own_of Opening = nothing
own_of (Message sender) = receives sender
own_of (SubLimit code cents) = changes_sublimit code cents
own_of (Status code bin letter) = changes_status code bin letter
own_of Tick = nothing
own_of Close = nothing
own_of (ClosingBook date) = nothing
