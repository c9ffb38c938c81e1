-- What a payment does to the balance of its bank's record, and what it leaves of the row.
use Rattle.model.specs.Answers.{Answer}
use Rattle.std.specs.Prelude.{ℕ, zero, suc, ◌+◌, ◌-◌, ◌^◌, ◌≤◌, ◌<◌, ◌≡◌, List, [], ◌∷◌, Ok, Err}
use Rattle.chars.specs.declared.Refusal.TheVariants.{BrokenTables}
use Rattle.settle.specs.Payments.{Payment, row_payments}
use Rattle.settle.specs.Settlement.{settled}
use Rattle.settle.specs.Rules.{Ready}
use Rattle.call_records.specs.declared.Account.{Account}
use Rattle.call_records.specs.Records.{codes_of, flags_of, balances_of, sublimits_of, waiting_of}

-- a credit, which has no letters, raises the balance; a debit lowers it
unfoldable pub balance_after : (balance cents letters : ℕ) → ℕ
balance_after balance cents zero = balance + cents
balance_after balance cents (suc n) = balance - cents

-- a credit has room in the word; a debit has the money
unfoldable pub Bears : (balance cents letters : ℕ) → Type 0
Bears balance cents zero = balance + cents < 2 ^ 64
Bears balance cents (suc n) = cents ≤ balance

-- "It then settles at once, all payments": the balances are these, and every other field of every record is as it was
pub record Stored (before after : List Account) (balances : List ℕ) : Type 0 where
  pub balances_are : balances_of after ≡ balances
  pub codes_kept : codes_of after ≡ codes_of before
  pub flags_kept : flags_of after ≡ flags_of before
  pub sublimits_kept : sublimits_of after ≡ sublimits_of before
  pub waiting_kept : waiting_of after ≡ waiting_of before

-- the batch at a place, settled where a settlement can be made; else 06, "with nothing changed"
pub data Settles (row : List Account) (batches : List ℕ) (place : ℕ) : Answer → List Account → Type 0 where
  settles : {after : List Account} → Ready (balances_of row) batches place
      → Stored row after (settled (balances_of row) (row_payments batches place)) → Settles row batches place (Ok tt) after
  refuses : (Ready (balances_of row) batches place → ⊥) → Settles row batches place (Err BrokenTables) row

-- the batches at these places, settled on the row one after another
pub data InOrder (batch : ℕ → List Payment) : List Account → List ℕ → List Account → Type 0 where
  none : {row : List Account} → InOrder batch row [] row
  next : {row mid end : List Account} {p : ℕ} {ps : List ℕ} → Stored row mid (settled (balances_of row) (batch p)) → InOrder batch mid ps end
      → InOrder batch row (p ∷ ps) end
