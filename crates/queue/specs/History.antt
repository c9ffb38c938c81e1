-- The omission rule over the history of events, and the two tests by it.
use Rattle.std.specs.Prelude.{ℕ, suc, ◌+◌, ◌*◌, ◌/◌, ◌%◌, ◌≡◌, Bool, true, false, cond, List, [], ◌∷◌, ◌++◌, map, eqb, set}
use Rattle.settle.specs.Payments.{Payment}
use Rattle.settle.specs.Settlement.{Accounts, verdict}
use Rattle.settle.specs.declared.Verdict.{Verdict}
use Rattle.settle.specs.declared.Verdict.TheVariants.{Passes, Stops}
use Rattle.queue.specs.Memory.{credited, wake}
use Rattle.queue.specs.Tests.{settle}
use Rattle.queue.specs.declared.Step.{Step}
use Rattle.queue.specs.declared.Step.TheVariants.{Omitted, Failed, Passed}

-- what the rule looks back on: a failed try in the quick list, a settled batch, an accepted sub-limit change, and a batch place whose batch
-- had an accepted status change, ended or came anew
pub data Event : Type 0 where
  failed : (place bank : ℕ) → Event
  settled_batch : List Payment → Event
  sublimit_changed : (bank : ℕ) → Event
  changed : (place : ℕ) → Event

-- an event that leaves the batch at place p, held at bank k, held
abbrev pub Spares : (place bank : ℕ) → Event → Type 0
Spares p k (failed x j) = x ≡ p → ⊥
Spares p k (settled_batch ps) = credited ps k ≡ false
Spares p k (sublimit_changed j) = j ≡ k → ⊥
Spares p k (changed x) = x ≡ p → ⊥

-- "A later try is omitted exactly if, since that batch's last try in the quick list, the remembered bank has had no credit settled (of any amount),
-- no accepted sub-limit change, and the batch no accepted status change." The newest event stands first.
pub data Omits (p k : ℕ) : List Event → Type 0 where
  last : {es : List Event} → Omits p k (failed p k ∷ es)
  past : {e : Event} {es : List Event} → Spares p k e → Omits p k es → Omits p k (e ∷ es)

-- the memory after an event, and after a history
unfoldable pub after_event : Event → List ℕ → List ℕ
after_event (failed p k) m = set m p (suc k)
after_event (settled_batch ps) m = map (wake (credited ps)) m
after_event (sublimit_changed k) m = map (wake (eqb k)) m
after_event (changed p) m = set m p 0

unfoldable pub replay : List Event → List ℕ → List ℕ
replay [] m = m
replay (e ∷ es) m = after_event e (replay es m)

-- batches at some places ended, one by one
unfoldable pub ended_events : List ℕ → List Event
ended_events [] = []
ended_events (p ∷ ps) = ended_events ps ++ (changed p ∷ [])

-- what a turn adds to the history: a settled batch, or a failed try of the quick test
unfoldable pub happened : Bool → ℕ → List Payment → Step → Verdict → List Event
happened quick p ps Omitted v = []
happened quick p ps Passed v = settled_batch ps ∷ []
happened quick p ps Failed Passes = []
happened quick p ps Failed (Stops k) = cond quick (failed p k ∷ []) []

-- what the tries of a test add, read off their row: `a` are the accounts that they found
abbrev pub step_in : ℕ → Step
step_in t = cond (eqb (t % 2) 1) Passed Failed

abbrev pub books_after : Step → Accounts → List Payment → Accounts
books_after Omitted a ps = a
books_after Failed a ps = a
books_after Passed a ps = settle a ps

module _ (quick : Bool) (batch : ℕ → List Payment) where
  unfoldable pub tried_events : Accounts → List ℕ → List Event
  tried_events a [] = []
  tried_events a (t ∷ ts) =
      tried_events (books_after (step_in t) a (batch (t / 2))) ts ++ happened quick (t / 2) (batch (t / 2)) (step_in t) (verdict a (batch (t / 2)))

  -- a batch is tried, at its turn, unless the quick test omits it
  abbrev pub Due : ℕ → List Event → Type 0
  Due p es = (k : ℕ) → quick ≡ true → Omits p k es → ⊥

  -- The two tests in document 01's own words, with no memory: `es` is what has happened so far, the newest first; of the walk that is under way
  -- `kept` are the places that stay, `rest` those whose turn is to come, and `some` says whether any was settled. Then the tries that are
  -- still made, and the accounts and the queue that are left.
  pub data Tries : List Event → Accounts → (kept rest : List ℕ) → (some : Bool) → (tries : List ℕ) → Accounts → (queue : List ℕ) → Type 0 where
    -- "stop after a pass without"
    stops : {es : List Event} {a : Accounts} {kept : List ℕ} → Tries es a kept [] false [] a kept
    -- "after a pass with a settlement, start again"
    again : {es : List Event} {a v : Accounts} {kept ts q : List ℕ} → Tries es a [] kept false ts v q → Tries es a kept [] true ts v q
    -- "A later try is omitted exactly if .."
    omitted : {es : List Event} {a v : Accounts} {kept rest ts q : List ℕ} {p : ℕ} {some : Bool} (k : ℕ) → quick ≡ true → Omits p k es
        → Tries es a (kept ++ (p ∷ [])) rest some ts v q → Tries es a kept (p ∷ rest) some ts v q
    -- "from the head, try each"; "a failed try remembers the bank of the first uncovered debit"
    fails : {es : List Event} {a v : Accounts} {kept rest ts q : List ℕ} {p t : ℕ} {some : Bool} (k : ℕ) → Due p es → verdict a (batch p) ≡ Stops k → t ≡ 2 * p
        → Tries (happened quick p (batch p) Failed (Stops k) ++ es) a (kept ++ (p ∷ [])) rest some ts v q → Tries es a kept (p ∷ rest) some (t ∷ ts) v q
    -- "It then settles at once, all payments."
    passes : {es : List Event} {a v : Accounts} {kept rest ts q : List ℕ} {p t : ℕ} {some : Bool} → Due p es → verdict a (batch p) ≡ Passes → t ≡ 2 * p + 1
        → Tries (settled_batch (batch p) ∷ es) (settle a (batch p)) kept rest true ts v q → Tries es a kept (p ∷ rest) some (t ∷ ts) v q
