-- The table rules, each under its words. "A lent table breaks the table rules": 06.
use Rattle.std.specs.Prelude.{ℕ, suc, ◌+◌, ◌/◌, ◌^◌, ◌≤◌, ◌<◌, ◌≡◌, ◌⊎◌, Bool, true, false, ◌&&◌, ◌||◌, not, cond, List, [], ◌∷◌, ◌++◌, eqb, length, get_or, take, drop}
use Rattle.chars.specs.Words.{member}
use Rattle.codes.specs.Codes.{short_end, short_text, no_code}
use Rattle.codes.specs.declared.Code.{Code}
use Rattle.dates.specs.Dates.{days_of_century, is_remembered}
use Rattle.clock.specs.Clock.{seconds_of_day, minutes_of_day}
pub use Rattle.text_names.specs.rules.Names.{is_whole, is_reference, is_bin}
use Rattle.text_values.specs.Letters.{is_status, is_fourth}
use Rattle.request_read.specs.declared.terms.Activation.{Activation}
use Rattle.request_read.specs.declared.terms.Activation.TheVariants.{AtOnce, Minute}
use Rattle.book_read.specs.Range.{Each, all_are, is_short, Rising, stream_codes}
use Rattle.settle.specs.Payments.{Payment, credit, debit, bank_of, cents_of}
use Rattle.book_read.specs.Book.{most_money}
use Rattle.settle.specs.Rules.{All, NoRepeats, most_cents, sum, credits, debits, Distinct}
use Rattle.queue.specs.Promise.{Once}
use Rattle.model.specs.declared.Phase.{Phase}
use Rattle.model.specs.declared.Phase.TheVariants.{Fresh, Open, Closed}
use Rattle.model.specs.State.{House, Message, Batch, Place, free, live, Batches, Entry, most_references, most_bins, Known, State, fresh, same_code, no_entry, payments_of, place_payments, place_messages, place_at}
use Rattle.model.specs.Changes.{has_debit}

-- ---- "each stored value one that book, text or clock allows"

-- the letters of a debit
abbrev pub are_letters : List ℕ → Bool
are_letters l = all_are is_status (take 3 l) && all_are is_fourth (drop 3 l)

pub record Priced (banks : ℕ) (p : Payment) : Type 0 where
  -- "bank places below the bank count"
  pub known : bank_of p < banks
  pub money : cents_of p ≤ most_cents

-- a debit has letters, a credit none
abbrev pub Lettered : Payment → Type 0
Lettered (credit k c) = Unit {0}
Lettered (debit l k c) = (l < short_end) × (are_letters (short_text l) ≡ true)

-- ---- the house

pub record RightHouse (h : House) (balances sublimits : List ℕ) : Type 0 where
  pub few_streams : length h.streams ≤ 8
  pub stream_codes_short : Each (λ x. is_short x.code ≡ true) h.streams
  pub administrators : Each (λ x. (1 ≤ x.sender) × (x.sender ≤ 255)) h.streams
  pub streams_rise : Rising (stream_codes h.streams)
  pub few_banks : h.banks ≤ 64
  pub codes_long : length h.codes ≡ 64
  pub flags_long : length h.flags ≡ 64
  pub balances_long : length balances ≡ 64
  pub sublimits_long : length sublimits ≡ 64
  pub bank_codes : Each (λ x. is_short x ≡ true) (take h.banks h.codes)
  -- "banks ascending by code"
  pub banks_rise : Rising (take h.banks h.codes)
  -- "a stream bit with no stream" is not there
  pub flags_right : Each (λ x. x / 2 < 2 ^ length h.streams) (take h.banks h.flags)
  pub sublimits_right : Each (λ x. x ≤ most_money) sublimits
  -- "total in range"
  pub total : sum balances ≤ most_money
  -- "account records past it zero"
  pub codes_past : Each (λ x. x ≡ 0) (drop h.banks h.codes)
  pub flags_past : Each (λ x. x ≡ 0) (drop h.banks h.flags)
  pub balances_past : Each (λ x. x ≡ 0) (drop h.banks balances)
  pub sublimits_past : Each (λ x. x ≡ 0) (drop h.banks sublimits)

-- ---- "each batch place zero or one live batch"

abbrev pub numbers : List Message → List ℕ
numbers [] = []
numbers (m ∷ ms) = m.number ∷ numbers ms

abbrev pub RightMinute : Activation → Type 0
RightMinute AtOnce = Unit {0}
RightMinute (Minute m) = m < minutes_of_day

pub record RightMessage (banks count : ℕ) (m : Message) : Type 0 where
  pub reference : is_reference m.reference ≡ true
  pub number : (1 ≤ m.number) × (m.number ≤ count)
  pub some : 1 ≤ length m.payments
  pub few : length m.payments ≤ 10
  pub priced : Each (Priced banks) m.payments
  pub lettered : Each Lettered m.payments

-- "1 to 10 messages in a batch"; R2: a bank stands once in a batch that is being assembled, too
pub record RightBatch (banks : ℕ) (b : Batch) : Type 0 where
  pub bin : is_bin b.bin ≡ true
  pub count : (1 ≤ b.count) × (b.count ≤ 10)
  pub minute : RightMinute b.activation
  pub some : 1 ≤ length b.messages
  pub messages : Each (RightMessage banks b.count) b.messages
  pub apart : Once (numbers b.messages)
  pub banks_differ : Distinct (payments_of b.messages)

abbrev pub RightPlace : ℕ → Place → Type 0
RightPlace banks free = Unit {0}
RightPlace banks (live b) = RightBatch banks b

-- all numbers are there; "in a complete batch all banks differ and credits equal debits"
pub record Complete (b : Batch) : Type 0 where
  pub whole : length b.messages ≡ b.count
  pub even : credits (payments_of b.messages) ≡ debits (payments_of b.messages)

abbrev pub Given : Activation → Type 0
Given AtOnce = ⊥
Given (Minute m) = Unit {0}

abbrev pub WaitsAt : Place → Type 0
WaitsAt free = ⊥
WaitsAt (live b) = Complete b

abbrev pub Timed : Place → Type 0
Timed free = ⊥
Timed (live b) = Given b.activation

-- a live batch is complete exactly when it waits
abbrev pub Assembled : Place → Bool → Type 0
Assembled free waits = waits ≡ false
Assembled (live b) true = Unit {0}
Assembled (live b) false = length b.messages < b.count

pub record RightBatches (banks : ℕ) (b : Batches) : Type 0 where
  pub long : length b.places ≡ 32
  pub places : Each (RightPlace banks) b.places
  -- "the queue's order without gap or repeat", and so is the order of completion
  pub queue_once : Once (b.queue ++ b.pending)
  pub queued : All (λ p. WaitsAt (place_at b p)) b.queue
  pub waiting : All (λ p. WaitsAt (place_at b p) × Timed (place_at b p)) b.pending
  pub assembling : (p : ℕ) → Assembled (place_at b p) (member p b.pending || member p b.queue)

-- ---- references and BINs

abbrev pub RightEntry : (Code → Bool) → ℕ → Entry → Type 0
RightEntry is last e = (e ≡ no_entry) ⊎ ((is e.code ≡ true) × (e.day ≤ last))

-- those still remembered
abbrev pub remembered : ℕ → List Entry → List Code
remembered today [] = []
remembered today (e ∷ es) =
    cond (not (same_code e.code no_code) && is_remembered e.day today) (e.code ∷ remembered today es) (remembered today es)

abbrev pub Unlike : Code → List Code → Type 0
Unlike c ds = All (λ d. same_code c d ≡ false) ds

abbrev pub AllUnlike : List Code → Type 0
AllUnlike cs = NoRepeats (λ c d. same_code c d ≡ false) cs

abbrev pub has : Code → List Code → Bool
has c [] = false
has c (d ∷ ds) = same_code c d || has c ds

abbrev pub live_bins : List Place → List Code
live_bins [] = []
live_bins (free ∷ ps) = live_bins ps
live_bins (live b ∷ ps) = b.bin ∷ live_bins ps

abbrev pub noted_today : ℕ → List Entry → ℕ
noted_today today [] = 0
noted_today today (e ∷ es) = cond (not (same_code e.code no_code) && eqb e.day today) 1 0 + noted_today today es

abbrev pub live_messages : List Place → ℕ
live_messages [] = 0
live_messages (p ∷ ps) = length (place_messages p) + live_messages ps

pub record RightKnown (last : ℕ) (k : Known) : Type 0 where
  pub references_long : length k.references ≡ most_references
  pub bins_long : length k.bins ≡ most_bins
  pub references : Each (RightEntry is_reference last) k.references
  pub bins : Each (RightEntry is_bin last) k.bins
  -- "no reference or BIN remembered twice"
  pub references_once : AllUnlike (remembered last k.references)
  pub bins_once : AllUnlike (remembered last k.bins)

-- ---- the whole

pub record Opened (s : State) : Type 0 where
  pub date : s.day.date < days_of_century
  pub clock : s.day.clock < seconds_of_day
  pub some_streams : 1 ≤ length s.house.streams
  pub some_banks : 1 ≤ s.house.banks
  pub house : RightHouse s.house s.books.balances s.books.sublimits
  pub batches : RightBatches s.house.banks s.batches
  pub known : RightKnown s.day.date s.known
  -- "live BINs differ and are remembered"
  pub bins_differ : AllUnlike (live_bins s.batches.places)
  pub bins_remembered : Each (λ c. has c (remembered s.day.date s.known.bins) ≡ true) (live_bins s.batches.places)
  -- "texts written today and live messages together no more than today's references"
  pub answered : s.day.texts + live_messages s.batches.places ≤ noted_today s.day.date s.known.references

abbrev pub Idle : State → Type 0
Idle s = s.batches ≡ fresh.batches

-- "no live batch unless the day is open"; R5: before the first day all is zero
abbrev pub ValidIn : Phase → State → Type 0
ValidIn Fresh s = s ≡ fresh
ValidIn Open s = Opened s
ValidIn Closed s = Opened s × Idle s

abbrev pub Valid : State → Type 0
Valid s = ValidIn s.day.phase s

-- R8: the memory in given tables
pub record RightMemory (b : Batches) (m : List ℕ) : Type 0 where
  pub long : length m ≡ 32
  pub held : (p k : ℕ) → get_or m p 0 ≡ suc k → (member p b.queue ≡ true) × (has_debit k (place_payments (place_at b p)) ≡ true)
