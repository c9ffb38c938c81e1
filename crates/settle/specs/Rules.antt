-- The rules that the accounts and a complete batch keep, and what they leave to be shown for a settlement.
use Rattle.std.specs.Prelude.{ℕ, ◌+◌, ◌^◌, ◌≤◌, ◌<◌, ◌≡◌, ◌≢◌, List, [], ◌∷◌, length, get_or}
use Rattle.book_read.specs.Book.{most_money}
pub use Rattle.settle.specs.Payments.{sum}
use Rattle.settle.specs.Payments.{Payment, credit, debit, bank_of, cents_of, table_length, row_payments, how_many}
use Rattle.settle.specs.Settlement.{paid}

unfoldable pub debits : List Payment → ℕ
debits [] = 0
debits (credit k c ∷ ps) = debits ps
debits (debit l k c ∷ ps) = c + debits ps

unfoldable pub credits : List Payment → ℕ
credits [] = 0
credits (credit k c ∷ ps) = c + credits ps
credits (debit l k c ∷ ps) = credits ps

abbrev pub All : {A : Type 0} → (A → Type 0) → List A → Type 0
All Q [] = Unit {0}
All Q (x ∷ xs) = Q x × All Q xs

-- no repeats: `unlike x y` says that y, which stands behind x, is another
abbrev pub NoRepeats : {A : Type 0} → (A → A → Type 0) → List A → Type 0
NoRepeats unlike [] = Unit {0}
NoRepeats unlike (x ∷ xs) = All (unlike x) xs × NoRepeats unlike xs

-- "in a complete batch all banks differ"
unfoldable pub Apart : ℕ → List Payment → Type 0
Apart k ps = All (λ p. bank_of p ≢ k) ps

unfoldable pub Distinct : List Payment → Type 0
Distinct ps = NoRepeats (λ p q. bank_of q ≢ bank_of p) ps

-- "`9999999999,99` is 999,999,999,999"
abbrev pub most_cents : ℕ
most_cents = 999999999999

-- "bank places below the bank count"
unfoldable pub Ranged : List Payment → Type 0
Ranged [] = Unit {0}
Ranged (p ∷ ps) = ((bank_of p < 64) × (cents_of p ≤ most_cents)) × Ranged ps

-- "Balances, their total and sub-limits run from 0 to 6,400,000,000,000,000."
pub record Books (balances sublimits : List ℕ) : Type 0 where
  pub b_long : length balances ≡ 64
  pub l_long : length sublimits ≡ 64
  pub bounded : sum balances ≤ most_money

-- a batch that keeps the table rules stands at the place
pub record Good (batches : List ℕ) (place : ℕ) : Type 0 where
  pub t_long : length batches ≡ table_length
  pub placed : place < 32
  pub few : how_many batches place ≤ 100
  pub ranged : Ranged (row_payments batches place)
  pub distinct : Distinct (row_payments batches place)
  pub even : credits (row_payments batches place) ≡ debits (row_payments batches place)

-- what a look for the first uncovered debit asks
pub record Laid (b l batches : List ℕ) (place : ℕ) : Type 0 where
  pub b_long : length b ≡ 64
  pub l_long : length l ≡ 64
  pub t_long : length batches ≡ table_length
  pub placed : place < 32
  pub few : how_many batches place ≤ 100
  pub ranged : Ranged (row_payments batches place)

-- a payment that can be made now: a debit has the money, a credit has room in the word
unfoldable pub Fits : List ℕ → Payment → Type 0
Fits b (credit k c) = get_or b k 0 + c < 2 ^ 64
Fits b (debit l k c) = c ≤ get_or b k 0

pub record Payable (b : List ℕ) (p : Payment) : Type 0 where
  pub inside : bank_of p < length b
  pub fits : Fits b p

-- each payment can be made when its turn comes
unfoldable pub AllPayable : List ℕ → List Payment → Type 0
AllPayable b [] = Unit {0}
AllPayable b (p ∷ ps) = Payable b p × AllPayable (paid b p) ps

-- what a settlement asks
pub record Ready (b batches : List ℕ) (place : ℕ) : Type 0 where
  pub t_long : length batches ≡ table_length
  pub placed : place < 32
  pub few : how_many batches place ≤ 100
  pub payable : AllPayable b (row_payments batches place)
