-- The two queue tests. They differ in one thing, `quick`: the quick test remembers where a batch failed, and omits a batch that it remembers.
use Rattle.std.specs.Prelude.{ℕ, zero, suc, ◌+◌, ◌*◌, ◌/◌, ◌%◌, Bool, true, false, ◌&&◌, cond, List, [], ◌∷◌, ◌++◌, map, eqb, ltb, length, get_or, set}
use Rattle.settle.specs.Payments.{Payment}
use Rattle.settle.specs.Settlement.{Accounts, accounts, verdict, settled}
use Rattle.settle.specs.declared.Verdict.{Verdict}
use Rattle.settle.specs.declared.Verdict.TheVariants.{Passes, Stops}
use Rattle.queue.specs.Memory.{credited, wake}
use Rattle.queue.specs.declared.Step.{Step}
use Rattle.queue.specs.declared.Step.TheVariants.{Omitted, Failed, Passed}

-- what the turn of one batch leaves
pub record Turn : Type 0 where
  pub step : Step
  pub books : Accounts
  pub memory : List ℕ

abbrev pub turned : Step → Accounts → List ℕ → Turn
turned s a m = record { step = s; books = a; memory = m }

-- what a walk or a test leaves: accounts and memory, the places that wait in order, the places settled in order, the tries in order
pub record Outcome : Type 0 where
  pub books : Accounts
  pub memory : List ℕ
  pub queue : List ℕ
  pub done : List ℕ
  pub tries : List ℕ

-- what both tests must agree on: accounts, places that wait, places settled
pub record Seen : Type 0 where
  pub books : Accounts
  pub queue : List ℕ
  pub done : List ℕ

abbrev pub seen : Outcome → Seen
seen o = record { books = o.books; queue = o.queue; done = o.done }

abbrev pub nothing_tried : Accounts → List ℕ → List ℕ → Outcome
nothing_tried a m q = record { books = a; memory = m; queue = q; done = []; tries = [] }

-- a batch that passes leaves the queue, any other stays in it
abbrev pub stays : Step → ℕ → List ℕ
stays Omitted p = p ∷ []
stays Failed p = p ∷ []
stays Passed p = []

abbrev pub leaves : Step → ℕ → List ℕ
leaves Omitted p = []
leaves Failed p = []
leaves Passed p = p ∷ []

-- "Both report their tries in order in a lent row: twice the batch place, plus 1 for a pass."
abbrev pub try_of : Step → ℕ → List ℕ
try_of Omitted p = []
try_of Failed p = (2 * p) ∷ []
try_of Passed p = (2 * p + 1) ∷ []

-- the places settled, read off the tries
unfoldable pub passed_of : List ℕ → List ℕ
passed_of [] = []
passed_of (t ∷ ts) = cond (eqb (t % 2) 1) (t / 2 ∷ passed_of ts) (passed_of ts)

-- a turn, and what follows it
abbrev pub noted : Step → ℕ → Outcome → Outcome
noted s p o =
    record { books = o.books; memory = o.memory; queue = stays s p ++ o.queue; done = leaves s p ++ o.done; tries = try_of s p ++ o.tries }

-- a walk, and what follows it
abbrev pub joined : Outcome → Outcome → Outcome
joined r s =
    record { books = s.books; memory = s.memory; queue = s.queue; done = r.done ++ s.done; tries = r.tries ++ s.tries }

-- whether a walk settled anything, and what follows if it did
unfoldable pub some : List ℕ → Bool
some [] = false
some (x ∷ xs) = true

unfoldable pub again : Bool → Outcome → Outcome → Outcome
again false r s = r
again true r s = joined r s

-- "It then settles at once, all payments."
abbrev pub settle : Accounts → List Payment → Accounts
settle a ps = accounts (settled a.balances ps) a.sublimits

module _ (quick : Bool) where
  -- "A later try is omitted": the quick test omits a batch that it remembers (History says when that is)
  unfoldable pub omits : List ℕ → ℕ → Bool
  omits m p = quick && ltb 0 (get_or m p 0)

  -- "a failed try remembers the bank of the first uncovered debit"
  unfoldable pub remember : List ℕ → ℕ → ℕ → List ℕ
  remember m p k = cond quick (set m p (suc k)) m

  -- `batch` has the payments of each place
  module _ (batch : ℕ → List Payment) where
    -- a try, by its verdict: a batch that passes settles, and its credits wake the batches held at their banks
    unfoldable pub tried : Accounts → List ℕ → ℕ → Verdict → Turn
    tried a m p Passes = turned Passed (settle a (batch p)) (map (wake (credited (batch p))) m)
    tried a m p (Stops k) = turned Failed a (remember m p k)

    -- the turn of a batch
    unfoldable pub turn : Accounts → List ℕ → ℕ → Turn
    turn a m p = cond (omits m p) (turned Omitted a m) (tried a m p (verdict a (batch p)))

    -- "from the head, try each"
    unfoldable pub walk : Accounts → List ℕ → List ℕ → Outcome
    walk a m [] = nothing_tried a m []
    walk a m (p ∷ q) =
        let t : Turn = turn a m p in
        noted t.step p (walk t.books t.memory q)

    -- "after a pass with a settlement, start again; stop after a pass without"
    unfoldable pub test : ℕ → Accounts → List ℕ → List ℕ → Outcome
    test zero a m q = nothing_tried a m q
    test (suc f) a m q =
        let r : Outcome = walk a m q in
        again (some r.done) r (test f r.books r.memory r.queue)

-- each walk but the last shortens the queue
abbrev pub fuel : List ℕ → ℕ
fuel q = suc (length q)

-- "Plain: from the head, try each; after a pass with a settlement, start again; stop after a pass without."
abbrev pub plain_test : (ℕ → List Payment) → Accounts → List ℕ → List ℕ → Outcome
plain_test batch a m q = test false batch (fuel q) a m q

-- "Quick: a failed try remembers the bank of the first uncovered debit." A later try of the batch may then be omitted.
abbrev pub quick_test : (ℕ → List Payment) → Accounts → List ℕ → List ℕ → Outcome
quick_test batch a m q = test true batch (fuel q) a m q
