-- The table rules of the batch places, over the rows as they lie: what one row is asked, and what the ranks are.
use Rattle.std.specs.Prelude.{◌≡◌, ℕ, zero, suc, ◌+◌, ◌-◌, ◌*◌, ◌<◌, ◌≤◌, true, cond, List, [], ◌∷◌, length, take, drop, ◌==◌}
use Rattle.codes.specs.declared.Code.{Code}
use Rattle.clock.specs.Clock.{minutes_of_day}
use Rattle.book_read.specs.Book.{each}
use Rattle.book_read.specs.Range.{Each}
use Rattle.settle.specs.Payments.{Payment, payments_from}
use Rattle.settle.specs.Rules.{credits, debits, Distinct}
use Rattle.queue.specs.Promise.{All, Once}
use Rattle.model.specs.Changes.{has_debit}
use Rattle.model.specs.Rules.{is_reference, is_bin, Priced, Lettered, RightBatches, RightMemory}
use Rattle.tables.specs.House.{AllZero}
use Rattle.tables.specs.Rows.{word, code_at, how_many, pending_phase, queued_phase, batch_rows, batches_in, memory_in}
use Rattle.tables.specs.Words.{places_words}

-- ---- one row of 349 words

-- a message's four words
pub record Head : Type 0 where
  pub reference : Code
  pub number : ℕ
  pub size : ℕ

abbrev pub head_at : List ℕ → ℕ → Head
head_at row i = record { reference = code_at row (9 + 4 * i); number = word row (11 + 4 * i); size = word row (12 + 4 * i) }

abbrev pub heads_in : List ℕ → List Head
heads_in row = each (head_at row) 0 (word row 7)

abbrev pub numbers_of : List Head → List ℕ
numbers_of [] = []
numbers_of (h ∷ hs) = h.number ∷ numbers_of hs

abbrev pub sizes_of : List Head → ℕ
sizes_of [] = 0
sizes_of (h ∷ hs) = h.size + sizes_of hs

-- all payments of the row, by arrival and text order
abbrev pub payments_in : List ℕ → List Payment
payments_in row = payments_from row 49 (word row 8)

-- "reference, 1 to 16 of A-Z 0-9"; numbers 1 to count; 1 to 10 payments
pub record RightHead (count : ℕ) (h : Head) : Type 0 where
  pub reference : is_reference h.reference ≡ true
  pub number : (1 ≤ h.number) × (h.number ≤ count)
  pub size : (1 ≤ h.size) × (h.size ≤ 10)

-- BIN, count, activation and how many messages are there
pub record RightTop (row : List ℕ) : Type 0 where
  pub bin : is_bin (code_at row 2) ≡ true
  pub count : (1 ≤ word row 4) × (word row 4 ≤ 10)
  pub minute : word row 5 ≤ minutes_of_day
  pub there : (1 ≤ word row 7) × (word row 7 ≤ word row 4)

pub record RightHeads (row : List ℕ) : Type 0 where
  pub right : Each (RightHead (word row 4)) (heads_in row)
  pub apart : Once (numbers_of (heads_in row))
  pub all : sizes_of (heads_in row) ≡ word row 8

pub record RightPayments (banks : ℕ) (row : List ℕ) : Type 0 where
  pub priced : Each (Priced banks) (payments_in row)
  pub lettered : Each Lettered (payments_in row)
  pub differ : Distinct (payments_in row)

-- what is not used is zero: the words behind the messages, and those behind the payments
pub record ZeroBehind (row : List ℕ) : Type 0 where
  pub messages : AllZero (take (49 - (9 + 4 * word row 7)) (drop (9 + 4 * word row 7) row))
  pub payments : AllZero (drop (49 + 3 * word row 8) row)

pub record LiveRow (banks : ℕ) (row : List ℕ) : Type 0 where
  pub top : RightTop row
  pub heads : RightHeads row
  pub payments : RightPayments banks row
  pub behind : ZeroBehind row

-- "in a complete batch all banks differ and credits equal debits"
pub record Whole (row : List ℕ) : Type 0 where
  pub whole : word row 7 ≡ word row 4
  pub even : credits (payments_in row) ≡ debits (payments_in row)

pub record BuildingRow (row : List ℕ) : Type 0 where
  pub unranked : word row 1 ≡ 0
  pub untried : word row 6 ≡ 0
  pub missing : word row 7 < word row 4

pub record PendingRow (row : List ℕ) : Type 0 where
  pub whole : Whole row
  pub timed : 1 ≤ word row 5
  pub untried : word row 6 ≡ 0

-- the quick test's memory: none, or a bank with a debit in the batch
abbrev pub Remembers : ℕ → List Payment → Type 0
Remembers zero ps = Unit {0}
Remembers (suc k) ps = has_debit k ps ≡ true

pub record QueuedRow (row : List ℕ) : Type 0 where
  pub whole : Whole row
  pub memory : Remembers (word row 6) (payments_in row)

-- by the phase: 0 free, 1 assembling, 2 pending, 3 queued
abbrev pub RowIn : (phase banks : ℕ) → List ℕ → Type 0
RowIn zero banks row = AllZero row
RowIn (suc zero) banks row = LiveRow banks row × BuildingRow row
RowIn (suc (suc zero)) banks row = LiveRow banks row × PendingRow row
RowIn (suc (suc (suc zero))) banks row = LiveRow banks row × QueuedRow row
RowIn (suc (suc (suc (suc n)))) banks row = ⊥

abbrev pub RowRight : (banks : ℕ) → List ℕ → Type 0
RowRight banks row = RowIn (word row 0) banks row

-- ---- the two orders

-- the ranks of a phase, by place
abbrev pub ranks_in : (phase : ℕ) → List (List ℕ) → List ℕ
ranks_in phase [] = []
ranks_in phase (row ∷ rs) = cond (word row 0 == phase) (word row 1 ∷ ranks_in phase rs) (ranks_in phase rs)

-- "order without gap or repeat": each rank below their number, and none twice
pub record Ranked (phase : ℕ) (rs : List (List ℕ)) : Type 0 where
  pub below : All (λ r. r < how_many phase rs) (ranks_in phase rs)
  pub once : Once (ranks_in phase rs)

-- ---- the table

pub record BatchRules (banks : ℕ) (t : List ℕ) : Type 0 where
  pub long : length t ≡ 11168
  pub rows : Each (RowRight banks) (batch_rows t)
  pub pending : Ranked pending_phase (batch_rows t)
  pub queue : Ranked queued_phase (batch_rows t)

-- the batches' part of `Right`
pub record RightTable (banks : ℕ) (t : List ℕ) : Type 0 where
  pub batches : RightBatches banks (batches_in t)
  pub memory : RightMemory (batches_in t) (memory_in t)
  pub words : places_words (batches_in t) (memory_in t) 0 (batches_in t).places ≡ t
