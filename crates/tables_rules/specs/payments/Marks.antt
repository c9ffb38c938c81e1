-- Numbers that are marked one by one: what the tests of ranks, message numbers and banks say.
use Rattle.std.specs.Prelude.{◌≡◌, ℕ, ◌<◌, Bool, true, List, [], ◌∷◌, slice_index, slice_set}
use Rattle.chars.specs.Words.{Says}
use Rattle.settle.specs.Payments.{Payment, bank_of}
use Rattle.queue.specs.Promise.{All, Once}

-- what marking a number leaves: it is below n and was not seen, and is seen from now on
pub record Marked (n k : ℕ) (seen left : List ℕ) (r : Bool) : Type 0 where
  pub says : Says ((k < n) × (slice_index seen k ≡ 0)) r
  pub sets : r ≡ true → left ≡ slice_set seen k 1

-- each below n, and none twice
abbrev pub Below : ℕ → List ℕ → Type 0
Below n l = All (λ k. k < n) l × Once l

-- the bank places of payments
abbrev pub banks_of : List Payment → List ℕ
banks_of [] = []
banks_of (p ∷ ps) = bank_of p ∷ banks_of ps
