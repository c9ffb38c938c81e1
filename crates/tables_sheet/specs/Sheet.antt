-- What the sheet is worked out from, and what the payments of a batch add to it.
use Rattle.std.specs.Prelude.{ℕ, ◌+◌, ◌^◌, ◌≤◌, ◌<◌, ◌≡◌, cond, List, [], length, get_or}
use Rattle.settle.specs.Payments.{Payment}
use Rattle.settle.specs.Rules.{Ranged}
use Rattle.queue.specs.Promise.{taken}
use Rattle.model.specs.State.{Batches, payments_at}
use Rattle.model.specs.Messages.{waits}
use Rattle.tables.specs.Rows.{word}
use Rattle.tables.specs.Words.{sheet_length}
use Rattle.tables_rules.specs.batch_rules.BatchRules.{BatchRules}

-- batch places that keep the table rules
pub record Ruled (t : List ℕ) : Type 0 where
  pub banks : ℕ
  pub few : banks ≤ 64
  pub rules : BatchRules banks t

-- the payments of the batch at a place, where it waits: pending or queued
abbrev pub waiting_at : Batches → ℕ → List Payment
waiting_at b p = cond (waits b p) (payments_at b p) []

-- a row whose payments can be read
pub record Readable (row : List ℕ) : Type 0 where
  pub long : length row ≡ 349
  pub few : word row 8 ≤ 100

-- payments that can be added to a sheet: of known banks, and no total leaves its word
pub record Addable (sheet : List ℕ) (ps : List Payment) : Type 0 where
  pub long : length sheet ≡ sheet_length
  pub ranged : Ranged ps
  pub room : (k : ℕ) → k < 64 → get_or sheet k 0 + taken k ps < 2 ^ 64

-- the sheet with the debits of payments added, each to the total of its bank
pub record Added (before : List ℕ) (ps : List Payment) (after : List ℕ) : Type 0 where
  pub long : length after ≡ length before
  pub totals : (k : ℕ) → k < 64 → get_or after k 0 ≡ get_or before k 0 + taken k ps
