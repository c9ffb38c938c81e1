-- The payments of a batch as they lie in the table, and what they need.
use Rattle.std.specs.Prelude.{ℕ, zero, suc, ◌+◌, ◌*◌, List, [], ◌∷◌, get_or}

abbrev pub sum : List ℕ → ℕ
sum [] = 0
sum (x ∷ xs) = x + sum xs

pub data Payment : Type 0 where
  credit : (bank cents : ℕ) → Payment
  debit : (letters bank cents : ℕ) → Payment

-- three words: bank, cents, letters; no letters is a credit
unfoldable pub payment : (bank cents letters : ℕ) → Payment
payment bank cents zero = credit bank cents
payment bank cents (suc n) = debit (suc n) bank cents

unfoldable pub payment_at : List ℕ → ℕ → Payment
payment_at t at = payment (get_or t at 0) (get_or t (at + 1) 0) (get_or t (at + 2) 0)

unfoldable pub payments_from : List ℕ → (at count : ℕ) → List Payment
payments_from t at zero = []
payments_from t at (suc n) = payment_at t at ∷ payments_from t (at + 3) n

-- the batches' table: 32 rows of 349 words
abbrev pub table_length : ℕ
table_length = 11168

-- a batch's row is 349 words wide: how many payments there are stands in word 8, the first of them at word 49
abbrev pub how_many : List ℕ → ℕ → ℕ
how_many t place = get_or t (place * 349 + 8) 0

abbrev pub row_payments : List ℕ → ℕ → List Payment
row_payments t place = payments_from t (place * 349 + 49) (how_many t place)

abbrev pub bank_of : Payment → ℕ
bank_of (credit k a) = k
bank_of (debit l k a) = k

abbrev pub cents_of : Payment → ℕ
cents_of (credit k a) = a
cents_of (debit l k a) = a

-- what a bank has to cover
pub record Need : Type 0 where
  pub letters : ℕ
  pub bank : ℕ
  pub cents : ℕ

-- "each debit is covered by its own bank": a batch needs its debits, one by one. "Credits in the same batch cover nothing."
unfoldable pub needs_of : List Payment → List Need
needs_of [] = []
needs_of (credit k a ∷ ps) = needs_of ps
needs_of (debit l k a ∷ ps) = record { letters = l; bank = k; cents = a } ∷ needs_of ps
