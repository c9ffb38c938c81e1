-- "Errors we have seen in such engines": each as a queue test or an action in place of the engine's own.
use Rattle.std.specs.Prelude.{ℕ, zero, suc, ◌+◌, ◌-◌, Bool, true, false, cond, List, [], ◌∷◌, map, leb, get_or}
use Rattle.settle.specs.Payments.{Payment, Need, needs_of}
use Rattle.settle.specs.Settlement.{Accounts, first_uncovered, verdict}
use Rattle.settle.specs.Rules.{credits}
use Rattle.settle.specs.declared.Verdict.{Verdict}
use Rattle.settle.specs.declared.Verdict.TheVariants.{Passes, Stops}
use Rattle.queue.specs.Memory.{credited, wake}
use Rattle.queue.specs.Tests.{Turn, turned, Outcome, nothing_tried, noted, settle, omits, remember, some, again, fuel}
use Rattle.queue.specs.declared.Step.TheVariants.{Omitted, Failed, Passed}
use Rattle.model.specs.State.{payments_at}
use Rattle.model.specs.Messages.{Acted}
use Rattle.model.specs.Calls.{woken}

-- ---- another rule of cover: one walk over the queue, in which a batch passes where `passes` says so

module _ (passes : Accounts → List Payment → Bool) where
  unfoldable pub walk_by : (ℕ → List Payment) → Accounts → List ℕ → List ℕ → Outcome
  walk_by batch a m [] = nothing_tried a m []
  walk_by batch a m (p ∷ q) =
      cond (passes a (batch p)) (noted Passed p (walk_by batch (settle a (batch p)) m q)) (noted Failed p (walk_by batch a m q))

  abbrev pub judging : Bool → Acted → List ℕ → Outcome
  judging quick a m = walk_by (payments_at a.batches) a.books (woken a.wakes m) a.batches.queue

-- "Pooling payers' cover": what the payers need together is held against what they have together
abbrev pub needed : List Need → ℕ
needed [] = 0
needed (n ∷ ns) = n.cents + needed ns

abbrev pub owned : Accounts → List Need → ℕ
owned a [] = 0
owned a (n ∷ ns) = get_or a.balances n.bank 0 + owned a ns

abbrev pub is_pass : Verdict → Bool
is_pass Passes = true
is_pass (Stops k) = false

abbrev pub pooled : Accounts → List Payment → Bool
pooled a ps = leb (needed (needs_of ps)) (owned a (needs_of ps))

-- "Letting a credit cover a debit of its batch": each debit is lessened by the credits of the batch
abbrev pub lessened : ℕ → Need → Need
lessened cents n = record { letters = n.letters; bank = n.bank; cents = n.cents - cents }

abbrev pub credits_cover : Accounts → List Payment → Bool
credits_cover a ps = is_pass (first_uncovered a (map (lessened (credits ps)) (needs_of ps)))

-- ---- "Remembering the first payer, not the first uncovered one": the engine's tests but for the bank that a failed try remembers

abbrev pub first_payer : List Need → ℕ
first_payer [] = 0
first_payer (n ∷ ns) = n.bank

module _ (quick : Bool) (batch : ℕ → List Payment) where
  abbrev pub payer_tried : Accounts → List ℕ → ℕ → Verdict → Turn
  payer_tried a m p Passes = turned Passed (settle a (batch p)) (map (wake (credited (batch p))) m)
  payer_tried a m p (Stops k) = turned Failed a (remember quick m p (first_payer (needs_of (batch p))))

  abbrev pub payer_turn : Accounts → List ℕ → ℕ → Turn
  payer_turn a m p = cond (omits quick m p) (turned Omitted a m) (payer_tried a m p (verdict a (batch p)))

  unfoldable pub payer_walk : Accounts → List ℕ → List ℕ → Outcome
  payer_walk a m [] = nothing_tried a m []
  payer_walk a m (p ∷ q) =
      let t : Turn = payer_turn a m p in
      noted t.step p (payer_walk t.books t.memory q)

  unfoldable pub payer_test : ℕ → Accounts → List ℕ → List ℕ → Outcome
  payer_test zero a m q = nothing_tried a m q
  payer_test (suc f) a m q =
      let r : Outcome = payer_walk a m q in
      again (some r.done) r (payer_test f r.books r.memory r.queue)

abbrev pub remembering_payers : Bool → Acted → List ℕ → Outcome
remembering_payers quick a m =
    payer_test quick (payments_at a.batches) (fuel a.batches.queue) a.books (woken a.wakes m) a.batches.queue
