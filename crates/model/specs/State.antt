-- What the engine knows between two calls.
use Rattle.std.specs.Prelude.{ℕ, ◌+◌, Bool, true, false, cond, List, [], ◌∷◌, ◌++◌, get_or, set, replicate}
use Rattle.codes.specs.Codes.{no_code}
use Rattle.codes.specs.declared.Code.{Code}
pub use Rattle.text_names.specs.rules.Names.{same_code}
use Rattle.request_read.specs.declared.terms.Activation.{Activation}
use Rattle.book_read.specs.Accounts.{Stream}
use Rattle.settle.specs.Payments.{Payment}
use Rattle.settle.specs.Settlement.{Accounts, accounts}
use Rattle.model.specs.declared.Phase.{Phase}
use Rattle.model.specs.declared.Phase.TheVariants.{Fresh}

-- ---- places

-- what is looked for stands at a place, or nowhere
pub data Found : Type 0 where
  at : ℕ → Found
  nowhere : Found

abbrev pub on_found : {A : Type 0} → Found → A → (ℕ → A) → A
on_found (at p) d k = k p
on_found nowhere d k = d

-- "A new entry takes the lowest free place": the first that answers, counted from i
unfoldable pub seek_from : {A : Type 0} → (A → Bool) → ℕ → List A → Found
seek_from is i [] = nowhere
seek_from is i (x ∷ xs) = cond (is x) (at i) (seek_from is (i + 1) xs)

abbrev pub seek : {A : Type 0} → (A → Bool) → List A → Found
seek is xs = seek_from is 0 xs

-- ---- the parts of the state

-- the day's scalars: "the day's date", the clock, and the texts written today
pub record Day : Type 0 where
  pub phase : Phase
  pub date : ℕ
  pub clock : ℕ
  pub texts : ℕ

-- what the opening book says of streams and banks: of the 64 codes and flags the first `banks` are in use. A flag is 1 if the bank is
-- suspended, and twice its stream bits
pub record House : Type 0 where
  pub streams : List Stream
  pub banks : ℕ
  pub codes : List ℕ
  pub flags : List ℕ

-- a message of a batch: its payments name banks by their places
pub record Message : Type 0 where
  pub reference : Code
  pub number : ℕ
  pub payments : List Payment

-- count and activation are the first message's; messages in the order of their arrival
pub record Batch : Type 0 where
  pub bin : Code
  pub count : ℕ
  pub activation : Activation
  pub messages : List Message

-- "each batch place zero or one live batch"
pub data Place : Type 0 where
  free : Place
  live : Batch → Place

-- 32 batch places; the places of pending batches in the order of completion; the queue from its head
pub record Batches : Type 0 where
  pub places : List Place
  pub pending : List ℕ
  pub queue : List ℕ

-- a reference or a BIN with the day on which it was noted; no code at a place that was never used
pub record Entry : Type 0 where
  pub code : Code
  pub day : ℕ

-- "2,048 remembered references, 512 remembered BINs"
abbrev pub most_references : ℕ
most_references = 2048

abbrev pub most_bins : ℕ
most_bins = 512

pub record Known : Type 0 where
  pub references : List Entry
  pub bins : List Entry

pub record State : Type 0 where
  pub day : Day
  pub house : House
  pub books : Accounts
  pub batches : Batches
  pub known : Known

-- ---- "a fresh start: all zero, no day, nothing remembered"

abbrev pub no_entry : Entry
no_entry = record { code = no_code; day = 0 }

abbrev pub no_batches : Batches
no_batches = record { places = replicate 32 free; pending = []; queue = [] }

abbrev pub fresh : State
fresh = record {
  day = record { phase = Fresh; date = 0; clock = 0; texts = 0 };
  house = record { streams = []; banks = 0; codes = replicate 64 0; flags = replicate 64 0 };
  books = accounts (replicate 64 0) (replicate 64 0);
  batches = no_batches;
  known = record { references = replicate most_references no_entry; bins = replicate most_bins no_entry };
}

-- "all zero": one number for each batch place
abbrev pub no_memory : List ℕ
no_memory = replicate 32 0

-- ---- a batch

abbrev pub payments_of : List Message → List Payment
payments_of [] = []
payments_of (m ∷ ms) = m.payments ++ payments_of ms

abbrev pub place_payments : Place → List Payment
place_payments free = []
place_payments (live b) = payments_of b.messages

abbrev pub place_messages : Place → List Message
place_messages free = []
place_messages (live b) = b.messages

abbrev pub is_free : Place → Bool
is_free free = true
is_free (live b) = false

abbrev pub place_bin : Place → Code
place_bin free = no_code
place_bin (live b) = b.bin

abbrev pub on_live : {A : Type 0} → Place → A → (Batch → A) → A
on_live free d k = d
on_live (live b) d k = k b

-- the batch of a BIN
abbrev pub has_bin : Code → Place → Bool
has_bin bin free = false
has_bin bin (live b) = same_code b.bin bin

module _ (b : Batches) where
  abbrev pub place_at : ℕ → Place
  place_at p = get_or b.places p free

  -- the payments of each place, as the queue test has them
  abbrev pub payments_at : ℕ → List Payment
  payments_at p = place_payments (place_at p)

  abbrev pub with_place : ℕ → Place → Batches
  with_place p x = record { places = set b.places p x; pending = b.pending; queue = b.queue }

  abbrev pub batch_of : Code → Found
  batch_of bin = seek (has_bin bin) b.places

-- ---- scalars that change

abbrev pub with_clock : Day → ℕ → Day
with_clock d clock = record { phase = d.phase; date = d.date; clock = clock; texts = d.texts }

abbrev pub with_texts : Day → ℕ → Day
with_texts d n = record { phase = d.phase; date = d.date; clock = d.clock; texts = n }

abbrev pub with_phase : Day → Phase → Day
with_phase d p = record { phase = p; date = d.date; clock = d.clock; texts = d.texts }
