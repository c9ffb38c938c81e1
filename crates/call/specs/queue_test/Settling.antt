-- "(d) the queue test" on the lent rows, and what it settled ended.
use Rattle.std.specs.Prelude.{ℕ, ◌≤◌, ◌≡◌, Bool, List, length, take}
use Rattle.std.proofs.lemmas.List.Edits.{sets}
use Rattle.settle.specs.Payments.{row_payments}
use Rattle.settle.specs.Settlement.{accounts}
use Rattle.settle.specs.Rules.{Books}
use Rattle.queue.specs.Tests.{Outcome, test, fuel}
use Rattle.queue.specs.Rows.{AllGood}
use Rattle.queue.specs.Memory.{forgotten}
use Rattle.model.specs.Ending.{emptied}
use Rattle.call_orders.specs.Heads.{NeatTable}
use Rattle.call_orders.specs.Stages.{places_in}

pub record Testable (balances sublimits t m q : List ℕ) (nq : ℕ) (r : List ℕ) : Type 0 where
  pub books : Books balances sublimits
  pub table : NeatTable t
  pub good : AllGood t (take nq q)
  pub memory : length m ≡ 32
  pub few : nq ≤ 32
  pub queue : nq ≤ length q
  pub tries : 528 ≤ length r

abbrev pub outcome_of : Bool → (balances sublimits t m q : List ℕ) (nq : ℕ) → Outcome
outcome_of quick balances sublimits t m q nq = test quick (row_payments t) (fuel (take nq q)) (accounts balances sublimits) m (take nq q)

pub record Ended (o : Outcome) (sublimits t r : List ℕ) (balances' t' m' q' : List ℕ) (nq' : ℕ) (r' : List ℕ) (k : ℕ) : Type 0 where
  pub books : accounts balances' sublimits ≡ o.books
  pub table : NeatTable t'
  pub places : places_in t' ≡ emptied o.done (places_in t)
  pub memory : m' ≡ forgotten o.done o.memory
  pub queue : take nq' q' ≡ o.queue
  pub queue_fits : nq' ≤ length q'
  pub row : r' ≡ sets r 0 o.tries
  pub tried : k ≡ length o.tries
