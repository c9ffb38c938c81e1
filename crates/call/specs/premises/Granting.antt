-- What the code of the calls may take for granted of tables that keep the rules.
use Rattle.std.specs.Prelude.{ℕ, ◌+◌, ◌≤◌, ◌<◌, ◌≡◌, List, [], length, get_or}
use Rattle.settle.specs.Rules.{Books}
use Rattle.model.specs.Rules.{RightHouse, RightMemory, live_messages}
use Rattle.model.proofs.Standing.{Stood}
use Rattle.tables.specs.declared.Desk.{Desk}
use Rattle.tables.specs.House.{house_on}
use Rattle.tables.specs.Rows.{Tables, word, batch_rows, batches_in, memory_in}
use Rattle.tables.specs.Lent.{Long}
use Rattle.tables_rules.specs.entry_rules.EntryRules.{KnownRules}
use Rattle.tables_rules.specs.whole.TableRules.{CrossRules, places_of}
use Rattle.call_orders.specs.Heads.{NeatTable, words_of}
use Rattle.call_plan.specs.rules.Steps.{Counted}

-- the row of a place
abbrev pub row_at : List ℕ → ℕ → List ℕ
row_at batches p = get_or (batch_rows batches) p []

-- of a day that was opened
pub record Granted (d : Desk) (t : Tables) : Type 0 where
  pub date : d.date < 36525
  pub clock : d.clock < 86400
  pub some_streams : 1 ≤ d.n
  pub few_streams : d.n ≤ 8
  pub streams_long : length d.streams ≡ 16
  pub some_banks : 1 ≤ d.banks
  pub few_banks : d.banks ≤ 64
  pub long : Long t
  pub house : RightHouse (house_on d t.codes t.flags) t.balances t.sublimits
  pub books : Books t.balances t.sublimits
  -- the batches, and that the table is just their words
  pub stood : Stood d.banks (batches_in t.batches)
  pub memory : RightMemory (batches_in t.batches) (memory_in t.batches)
  pub words : t.batches ≡ words_of (batches_in t.batches) (memory_in t.batches)
  pub neat : NeatTable t.batches
  pub counted : (p : ℕ) → p < 32 → (word (row_at t.batches p) 0 ≡ 0 → ⊥) → Counted (row_at t.batches p)
  -- references and BINs
  pub known : KnownRules d.date t.references t.bins
  pub cross : CrossRules d.date d.texts t.batches t.references t.bins
  pub texts : d.texts + live_messages (places_of t.batches) ≤ 2048
