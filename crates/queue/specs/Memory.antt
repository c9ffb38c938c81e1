-- The quick test's memory: a number for each batch place, 0 where the batch is to be tried, else one more than the bank at which it is held.
use Rattle.std.specs.Prelude.{ℕ, zero, suc, Bool, true, false, ◌||◌, cond, List, [], ◌∷◌, eqb, get_or, set}
use Rattle.settle.specs.Payments.{Payment, credit, debit}

-- "no credit settled (of any amount)": the banks that a payment credits, and those that a batch credits
unfoldable pub credited_by : Payment → ℕ → Bool
credited_by (credit j c) = eqb j
credited_by (debit l j c) = λ k. false

unfoldable pub credited : List Payment → ℕ → Bool
credited [] k = false
credited (p ∷ ps) k = credited_by p k || credited ps k

-- the same in a row with a place for each bank: a payment marks the bank that it credits, a batch all that it credits
unfoldable pub marked_by : Payment → List Bool → List Bool
marked_by (credit j c) marks = set marks j true
marked_by (debit l j c) marks = marks

unfoldable pub marked : List Payment → List Bool → List Bool
marked [] marks = marks
marked (p ∷ ps) marks = marked ps (marked_by p marks)

abbrev pub is_marked : List Bool → ℕ → Bool
is_marked marks k = get_or marks k false

-- what happened to some banks, here `f`, has the batches that are held at one of them be tried again
unfoldable pub wake : (ℕ → Bool) → ℕ → ℕ
wake f zero = 0
wake f (suc k) = cond (f k) 0 (suc k)

-- a place whose batch ended inherits no memory
unfoldable pub forgotten : List ℕ → List ℕ → List ℕ
forgotten [] m = m
forgotten (p ∷ ps) m = forgotten ps (set m p 0)
