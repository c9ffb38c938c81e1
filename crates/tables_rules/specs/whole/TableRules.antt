-- The table rules over what is lent, word by word: what the test for 06 is to say.
use Rattle.std.specs.Prelude.{◌≡◌, ℕ, ◌+◌, ◌-◌, ◌*◌, ◌<◌, ◌≤◌, true, List, map, length, drop}
use Rattle.book_read.specs.Range.{Each}
use Rattle.codes.specs.declared.Code.{Code}
use Rattle.dates.specs.Dates.{days_of_century}
use Rattle.clock.specs.Clock.{seconds_of_day}
use Rattle.model.specs.State.{Place}
use Rattle.model.specs.declared.Phase.{Phase}
use Rattle.model.specs.declared.Phase.TheVariants.{Fresh, Open, Closed}
use Rattle.model.specs.Rules.{RightHouse, remembered, AllUnlike, has, live_bins, noted_today, live_messages}
use Rattle.tables.specs.declared.Desk.{Desk}
use Rattle.tables.specs.House.{house_on, AllZero}
use Rattle.tables.specs.Rows.{Tables, rows, word, place_in, batch_rows, batches_in, entries_in}
use Rattle.tables.specs.Words.{sheet_words, sheet_length}
use Rattle.tables_rules.specs.batch_rules.BatchRules.{BatchRules}
use Rattle.tables_rules.specs.entry_rules.EntryRules.{KnownRules}

-- so many words, all zero
pub record Blank (n : ℕ) (l : List ℕ) : Type 0 where
  pub long : length l ≡ n
  pub zero : AllZero l

-- R5: "No day yet means that every table and scalar is zero"
pub record NoDay (d : Desk) : Type 0 where
  pub date : d.date ≡ 0
  pub clock : d.clock ≡ 0
  pub texts : d.texts ≡ 0
  pub banks : d.banks ≡ 0
  pub n : d.n ≡ 0
  pub streams : Blank 16 d.streams

pub record NoAccounts (codes flags balances sublimits : List ℕ) : Type 0 where
  pub codes_none : Blank 64 codes
  pub flags_none : Blank 64 flags
  pub balances_none : Blank 64 balances
  pub sublimits_none : Blank 64 sublimits

pub record NoRows (batches references bins : List ℕ) : Type 0 where
  pub batches_none : Blank 11168 batches
  pub references_none : Blank 6144 references
  pub bins_none : Blank 1536 bins

pub record NoTables (d : Desk) (t : Tables) : Type 0 where
  pub day : NoDay d
  pub accounts : NoAccounts t.codes t.flags t.balances t.sublimits
  pub rows : NoRows t.batches t.references t.bins
  pub sheet : Blank sheet_length t.sheet

-- the day's scalars and the house
pub record DeskRules (d : Desk) (codes flags balances sublimits : List ℕ) : Type 0 where
  pub date : d.date < days_of_century
  pub clock : d.clock < seconds_of_day
  pub some_streams : 1 ≤ d.n
  pub some_banks : 1 ≤ d.banks
  pub streams_long : length d.streams ≡ 16
  pub streams_past : AllZero (drop (2 * d.n) d.streams)
  pub house : RightHouse (house_on d codes flags) balances sublimits

abbrev pub places_of : List ℕ → List Place
places_of batches = map place_in (batch_rows batches)

-- what batches and memory say of each other
pub record CrossRules (date texts : ℕ) (batches references bins : List ℕ) : Type 0 where
  -- "live BINs differ and are remembered"
  pub bins_differ : AllUnlike (live_bins (places_of batches))
  pub bins_remembered : Each (λ c. has c (remembered date (entries_in 512 bins)) ≡ true) (live_bins (places_of batches))
  -- "texts written today and live messages together no more than today's references"
  pub answered : texts + live_messages (places_of batches) ≤ noted_today date (entries_in 2048 references)

pub record DayTables (d : Desk) (t : Tables) : Type 0 where
  pub desk : DeskRules d t.codes t.flags t.balances t.sublimits
  pub batches : BatchRules d.banks t.batches
  pub known : KnownRules d.date t.references t.bins
  pub cross : CrossRules d.date d.texts t.batches t.references t.bins
  -- ticket 2: "it equals the sum over those batches"
  pub sheet : t.sheet ≡ sheet_words (batches_in t.batches)

-- "no live batch unless the day is open"
pub record ClosedTables (d : Desk) (t : Tables) : Type 0 where
  pub day : DayTables d t
  pub idle : AllZero t.batches

abbrev pub TablesIn : Phase → Desk → Tables → Type 0
TablesIn Fresh d t = NoTables d t
TablesIn Open d t = DayTables d t
TablesIn Closed d t = ClosedTables d t

abbrev pub TableRules : Desk → Tables → Type 0
TableRules d t = TablesIn d.phase d t

-- what the count of messages asks of a row: few, and none at a free place
abbrev pub Counts : List ℕ → Type 0
Counts row = (word row 7 ≤ 10) × (word row 0 ≡ 0 → word row 7 ≡ 0)

-- the live BINs from a place on
abbrev pub bins_from : List ℕ → ℕ → List Code
bins_from t p = live_bins (map place_in (rows 349 (32 - p) (drop (p * 349) t)))
