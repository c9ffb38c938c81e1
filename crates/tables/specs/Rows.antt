-- What the rows of the lent tables say: the state, decoded.
use Rattle.std.specs.Prelude.{ℕ, zero, suc, ◌+◌, ◌*◌, Bool, ◌&&◌, cond, List, [], ◌∷◌, map, eqb, get_or, take, drop}
use Rattle.codes.specs.declared.Code.{Code}
use Rattle.request_read.specs.declared.terms.Activation.{Activation}
use Rattle.request_read.specs.declared.terms.Activation.TheVariants.{AtOnce, Minute}
use Rattle.book_read.specs.Book.{each}
use Rattle.book_read.specs.Accounts.{Stream}
use Rattle.book_write.specs.Closing.{stream_of}
use Rattle.settle.specs.Payments.{payments_from}
use Rattle.settle.specs.Settlement.{accounts}
use Rattle.model.specs.State.{on_found, seek, Message, Batch, Place, free, live, Batches, Entry, most_references, most_bins, State}
use Rattle.model.specs.Calls.{Engine}
use Rattle.tables.specs.declared.Desk.{Desk}

-- a flat list as n rows of w words
unfoldable pub rows : (w n : ℕ) → List ℕ → List (List ℕ)
rows w zero l = []
rows w (suc n) l = take w l ∷ rows w n (drop w l)

abbrev pub word : List ℕ → ℕ → ℕ
word row i = get_or row i 0

abbrev pub code_at : List ℕ → ℕ → Code
code_at row i = record { high = word row i; low = word row (i + 1) }

-- ---- a batch place: 349 words

-- "0 none, else the minute of the day and 1"
abbrev pub activation_in : ℕ → Activation
activation_in zero = AtOnce
activation_in (suc m) = Minute m

-- message i, its payments from the word j on
abbrev pub message_in : List ℕ → (i j : ℕ) → Message
message_in row i j = record {
  reference = code_at row (9 + 4 * i);
  number = word row (11 + 4 * i);
  payments = payments_from row j (word row (12 + 4 * i));
}

-- n messages from message i on, the payments of one behind those of the other
unfoldable pub messages_in : List ℕ → (i j n : ℕ) → List Message
messages_in row i j zero = []
messages_in row i j (suc n) = message_in row i j ∷ messages_in row (i + 1) (j + 3 * word row (12 + 4 * i)) n

unfoldable pub batch_in : List ℕ → Batch
batch_in row = record {
  bin = code_at row 2;
  count = word row 4;
  activation = activation_in (word row 5);
  messages = messages_in row 0 49 (word row 7);
}

-- phase 0 is a free place
unfoldable pub place_in : List ℕ → Place
place_in row = cond (eqb (word row 0) 0) free (live (batch_in row))

-- ---- the orders of the pending and of the queue

-- phase 2 pending, 3 queued; the rank counts from 0
abbrev pub pending_phase : ℕ
pending_phase = 2

abbrev pub queued_phase : ℕ
queued_phase = 3

abbrev pub is_ranked : (phase rank : ℕ) → List ℕ → Bool
is_ranked phase rank row = eqb (word row 0) phase && eqb (word row 1) rank

abbrev pub how_many : (phase : ℕ) → List (List ℕ) → ℕ
how_many phase [] = 0
how_many phase (row ∷ rs) = cond (eqb (word row 0) phase) 1 0 + how_many phase rs

-- the places of a phase, by rank
unfoldable pub ranked : (phase : ℕ) → List (List ℕ) → List ℕ
ranked phase rs = each (λ rank. on_found (seek (is_ranked phase rank) rs) 0 (λ p. p)) 0 (how_many phase rs)

abbrev pub batch_rows : List ℕ → List (List ℕ)
batch_rows t = rows 349 32 t

unfoldable pub batches_in : List ℕ → Batches
batches_in t = record {
  places = map place_in (batch_rows t);
  pending = ranked pending_phase (batch_rows t);
  queue = ranked queued_phase (batch_rows t);
}

-- word 6 of each place
unfoldable pub memory_in : List ℕ → List ℕ
memory_in t = map (λ row. word row 6) (batch_rows t)

-- ---- references and BINs: rows of three words

abbrev pub entry_in : List ℕ → Entry
entry_in row = record { code = code_at row 0; day = word row 2 }

unfoldable pub entries_in : ℕ → List ℕ → List Entry
entries_in n t = map entry_in (rows 3 n t)

-- ---- the whole

-- the lent tables: four columns of accounts, batches, references, BINs
pub record Tables : Type 0 where
  pub codes : List ℕ
  pub flags : List ℕ
  pub balances : List ℕ
  pub sublimits : List ℕ
  pub batches : List ℕ
  pub references : List ℕ
  pub bins : List ℕ
  pub sheet : List ℕ

abbrev pub streams_on : Desk → List Stream
streams_on d = each (stream_of d.streams) 0 d.n

unfoldable pub state_in : Desk → Tables → State
state_in d t = record {
  day = record { phase = d.phase; date = d.date; clock = d.clock; texts = d.texts };
  house = record { streams = streams_on d; banks = d.banks; codes = t.codes; flags = t.flags };
  books = accounts t.balances t.sublimits;
  batches = batches_in t.batches;
  known = record { references = entries_in most_references t.references; bins = entries_in most_bins t.bins };
}

unfoldable pub engine_in : Desk → Tables → Engine
engine_in d t = record { state = state_in d t; memory = memory_in t.batches }
