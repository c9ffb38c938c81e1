-- A message that comes into a row.
use Rattle.std.specs.Prelude.{ℕ, ◌+◌, ◌≤◌, ◌<◌, ◌≡◌, List, [], length}
use Rattle.codes.specs.declared.Code.{Code}
use Rattle.settle.specs.Payments.{payments_from}
use Rattle.model.specs.State.{Message}
use Rattle.tables.specs.Rows.{word, batch_in, activation_in}
use Rattle.tables.specs.Words.{batch_words}
use Rattle.tables.specs.Arriving.{with_one}
use Rattle.call_orders.specs.Heads.{Neat}

-- a live row with room for one message more and n payments
pub record Roomy (row : List ℕ) (n : ℕ) : Type 0 where
  pub long : length row ≡ 349
  pub neat : Neat row
  pub live : word row 0 ≡ 0 → ⊥
  pub messages : word row 7 < 10
  pub payments : word row 8 + n ≤ 100

abbrev pub message_of : Code → ℕ → List ℕ → ℕ → Message
message_of reference number words n = record { reference = reference; number = number; payments = payments_from words 0 n }

abbrev pub row_with : List ℕ → Message → List ℕ
row_with row m = batch_words (word row 0) (word row 1) (word row 6) (with_one (batch_in row) m)

-- the row of a batch as yet without a message
abbrev pub new_row : Code → (count activation : ℕ) → List ℕ
new_row bin count a = batch_words 1 0 0 (record { bin = bin; count = count; activation = activation_in a; messages = [] })
