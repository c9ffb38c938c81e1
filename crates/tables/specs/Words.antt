-- The words of a state: all that is not used is zero, so that one state has one table.
use Rattle.std.specs.Prelude.{ℕ, zero, suc, ◌+◌, ◌-◌, cond, List, [], ◌∷◌, ◌++◌, eqb, length, get_or, replicate}
use Rattle.chars.specs.Words.{member}
use Rattle.codes.specs.declared.Code.{Code}
use Rattle.request_read.specs.declared.terms.Activation.{Activation}
use Rattle.request_read.specs.declared.terms.Activation.TheVariants.{AtOnce, Minute}
use Rattle.book_read.specs.Accounts.{stream_row}
use Rattle.settle.specs.Payments.{Payment, credit, debit}
use Rattle.book_read.specs.Book.{each}
use Rattle.queue.specs.Promise.{taken}
use Rattle.model.specs.State.{on_found, seek, Message, Batch, Place, free, live, Batches, Entry, State, payments_of, payments_at}
use Rattle.model.specs.Messages.{waits}
use Rattle.model.specs.Calls.{Engine}
use Rattle.tables.specs.declared.Desk.{Desk}
use Rattle.tables.specs.Rows.{Tables, pending_phase, queued_phase}

-- a list of words in a part of n
abbrev pub filled : ℕ → List ℕ → List ℕ
filled n l = l ++ replicate (n - length l) 0

abbrev pub code_words : Code → List ℕ
code_words c = c.high ∷ c.low ∷ []

-- ---- a batch place

abbrev pub activation_word : Activation → ℕ
activation_word AtOnce = 0
activation_word (Minute m) = suc m

-- bank place, cents, letters; a credit has none
abbrev pub payment_words : Payment → List ℕ
payment_words (credit k c) = k ∷ c ∷ 0 ∷ []
payment_words (debit l k c) = k ∷ c ∷ l ∷ []

unfoldable pub payments_words : List Payment → List ℕ
payments_words [] = []
payments_words (p ∷ ps) = payment_words p ++ payments_words ps

-- reference, number, its payments
abbrev pub message_words : Message → List ℕ
message_words m = m.reference.high ∷ m.reference.low ∷ m.number ∷ length m.payments ∷ []

unfoldable pub messages_words : List Message → List ℕ
messages_words [] = []
messages_words (m ∷ ms) = message_words m ++ messages_words ms

unfoldable pub batch_words : (phase rank memory : ℕ) → Batch → List ℕ
batch_words phase rank memory b =
    (phase ∷ rank ∷ b.bin.high ∷ b.bin.low ∷ b.count ∷ activation_word b.activation ∷ memory
    ∷ length b.messages ∷ length (payments_of b.messages) ∷ [])
    ++ (filled 40 (messages_words b.messages) ++ filled 300 (payments_words (payments_of b.messages)))

-- where a place stands in an order
abbrev pub rank_in : List ℕ → ℕ → ℕ
rank_in l p = on_found (seek (eqb p) l) 0 (λ i. i)

-- 1 assembling, 2 pending, 3 queued
abbrev pub phase_of : Batches → ℕ → ℕ
phase_of b p = cond (member p b.queue) queued_phase (cond (member p b.pending) pending_phase 1)

abbrev pub rank_of : Batches → ℕ → ℕ
rank_of b p = cond (member p b.queue) (rank_in b.queue p) (cond (member p b.pending) (rank_in b.pending p) 0)

abbrev pub place_words : Batches → (memory : List ℕ) → ℕ → Place → List ℕ
place_words b m p free = replicate 349 0
place_words b m p (live x) = batch_words (phase_of b p) (rank_of b p) (get_or m p 0) x

-- the places from p on
unfoldable pub places_words : Batches → (memory : List ℕ) → ℕ → List Place → List ℕ
places_words b m p [] = []
places_words b m p (x ∷ xs) = place_words b m p x ++ places_words b m (p + 1) xs

-- ---- references and BINs

unfoldable pub entries_words : List Entry → List ℕ
entries_words [] = []
entries_words (e ∷ es) = e.code.high ∷ e.code.low ∷ e.day ∷ entries_words es

-- ---- the sheet: what is kept of each bank beside its account

-- what a measure gives of the payments of the batches that wait, pending or queued, summed over n places from p on
unfoldable pub waiting_by : (List Payment → ℕ) → Batches → (p n : ℕ) → ℕ
waiting_by f b p zero = 0
waiting_by f b p (suc n) = cond (waits b p) (f (payments_at b p)) 0 + waiting_by f b (p + 1) n

-- ticket 2: "the total of its debits in pending and queued batches"
abbrev pub total_of : Batches → (bank : ℕ) → ℕ
total_of b k = waiting_by (taken k) b 0 32

-- one total for each of the 64 banks
unfoldable pub sheet_words : Batches → List ℕ
sheet_words b = each (total_of b) 0 64

abbrev pub sheet_length : ℕ
sheet_length = 64

-- ---- the whole

unfoldable pub tables_of : Engine → Tables
tables_of e = record {
  codes = e.state.house.codes;
  flags = e.state.house.flags;
  balances = e.state.books.balances;
  sublimits = e.state.books.sublimits;
  batches = places_words e.state.batches e.memory 0 e.state.batches.places;
  references = entries_words e.state.known.references;
  bins = entries_words e.state.known.bins;
  sheet = sheet_words e.state.batches;
}

-- eight streams of two words
unfoldable pub desk_of : State → Desk
desk_of s = record {
  phase = s.day.phase;
  date = s.day.date;
  clock = s.day.clock;
  texts = s.day.texts;
  banks = s.house.banks;
  streams = filled 16 (stream_row s.house.streams);
  n = length s.house.streams;
}
