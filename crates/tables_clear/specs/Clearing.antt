-- What the parts of a clearing say and leave.
use Rattle.std.specs.Prelude.{ℕ, ◌≡◌, List, length, replicate}
use Rattle.tables.specs.Words.{sheet_length}

-- the lengths of the tables of rows
pub record LongRows (batches references bins sheet : List ℕ) : Type 0 where
  pub batches_long : length batches ≡ 11168
  pub references_long : length references ≡ 6144
  pub bins_long : length bins ≡ 1536
  pub sheet_long : length sheet ≡ sheet_length

-- "all zero"
pub record WipedAccounts (codes flags balances sublimits codes' flags' balances' sublimits' : List ℕ) : Type 0 where
  pub codes_zero : codes' ≡ replicate (length codes) 0
  pub flags_zero : flags' ≡ replicate (length flags) 0
  pub balances_zero : balances' ≡ replicate (length balances) 0
  pub sublimits_zero : sublimits' ≡ replicate (length sublimits) 0

pub record WipedRows (batches references bins sheet batches' references' bins' sheet' : List ℕ) : Type 0 where
  pub batches_zero : batches' ≡ replicate (length batches) 0
  pub references_zero : references' ≡ replicate (length references) 0
  pub bins_zero : bins' ≡ replicate (length bins) 0
  pub sheet_zero : sheet' ≡ replicate (length sheet) 0
