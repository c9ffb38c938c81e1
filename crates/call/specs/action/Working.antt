-- (c) and (d): what the call's own action and the queue test behind it leave in the lent rows.
use Rattle.std.specs.Prelude.{ℕ, ◌≤◌, ◌≡◌, Bool, List, length}
use Rattle.std.proofs.lemmas.List.Edits.{sets}
use Rattle.settle.specs.Settlement.{accounts}
use Rattle.queue.specs.Tests.{Outcome}
use Rattle.queue.specs.Memory.{forgotten}
use Rattle.model.specs.Answers.{Answer}
use Rattle.model.specs.declared.Action.{Action}
use Rattle.model.specs.State.{State}
use Rattle.model.specs.Kinds.{own_of}
use Rattle.model.specs.Messages.{Acted}
use Rattle.model.specs.Calls.{act, tested, replies, left}
use Rattle.model.specs.Rules.{RightHouse}
use Rattle.tables.specs.declared.Desk.{Desk}
use Rattle.tables.specs.House.{house_on}
use Rattle.call_orders.specs.Stages.{seen, Became}
use Rattle.call_texts.specs.Writing.{Wrote, Room}
use Rattle.call_message.specs.outcome.Doing.{state_on, InRows, Actable}
use Rattle.call_message.specs.receive.Messaging.{known_in, Noted}

-- the state in the middle of a call, and what its action and its test make of it
abbrev pub middle : Desk → (codes flags balances sublimits t q : List ℕ) (nq : ℕ) (w : List ℕ) (nw : ℕ) (rs bs : List ℕ) → State
middle d codes flags balances sublimits t q nq w nw rs bs = state_on d codes flags (seen t q nq w nw) (accounts balances sublimits) (known_in rs bs)

abbrev pub acted_in : Desk → Action → (input codes flags balances sublimits t q : List ℕ) (nq : ℕ) (w : List ℕ) (nw : ℕ) (rs bs : List ℕ) → Acted
acted_in d x input codes flags balances sublimits t q nq w nw rs bs = act (middle d codes flags balances sublimits t q nq w nw rs bs) (own_of x) input

abbrev pub tested_in : Bool → Desk → Action → (input codes flags balances sublimits t q : List ℕ) (nq : ℕ) (w : List ℕ) (nw : ℕ) (rs bs m : List ℕ) → Outcome
tested_in quick d x input codes flags balances sublimits t q nq w nw rs bs m = tested quick (acted_in d x input codes flags balances sublimits t q nq w nw rs bs) m

-- (c): what an action leaves stands in the rows, in the sub-limits and in the remembered entries
pub record Carried (a : Acted) (balances m out : List ℕ) (texts : ℕ) (answer : Answer) (sublimits' t q : List ℕ) (nq : ℕ) (w : List ℕ) (nw : ℕ) (m' out' : List ℕ) (to texts' : ℕ) (rs bs : List ℕ) : Type 0 where
  pub rows : InRows a m out 0 texts answer t q nq w nw m' out' to texts'
  pub books : a.books ≡ accounts balances sublimits'
  pub known : Noted a.known rs bs

-- before (c): the rows of batches that keep the rules, and room for all texts
pub record Workable (quick : Bool) (d : Desk) (x : Action) (input codes flags balances sublimits t q : List ℕ) (nq : ℕ) (w : List ℕ) (nw : ℕ) (rs bs m out r : List ℕ) : Type 0 where
  pub actable : Actable d codes flags t q nq w nw out
  pub few_streams : d.n ≤ 8
  pub house : RightHouse (house_on d codes flags) balances sublimits
  pub references : length rs ≡ 6144
  pub bins : length bs ≡ 1536
  pub memory : length m ≡ 32
  pub tries : 528 ≤ length r
  pub room : Room out 0 d.texts (replies (middle d codes flags balances sublimits t q nq w nw rs bs) (acted_in d x input codes flags balances sublimits t q nq w nw rs bs) (tested_in quick d x input codes flags balances sublimits t q nq w nw rs bs m))

-- (c) and (d)
pub record Worked (s : State) (a : Acted) (o : Outcome) (out r : List ℕ) (texts : ℕ) (answer : Answer) (balances' sublimits' t q : List ℕ) (nq : ℕ) (w : List ℕ) (nw : ℕ) (rs bs m' out' : List ℕ) (to texts' : ℕ) (r' : List ℕ) (k : ℕ) : Type 0 where
  pub answered : answer ≡ a.answer
  pub books : accounts balances' sublimits' ≡ o.books
  pub batches : Became (left s a o) t q nq w nw
  pub known : Noted a.known rs bs
  pub memory : m' ≡ forgotten o.done o.memory
  pub replies : Wrote out 0 texts (replies s a o) out' to texts'
  pub row : r' ≡ sets r 0 o.tries
  pub tried : k ≡ length o.tries
