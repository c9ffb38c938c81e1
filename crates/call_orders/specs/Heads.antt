-- The head of a batch row is its phase, its rank and its memory. While a call works, the orders and the memory stand in rows beside the
-- table, and the heads are written once, at its end.
use Rattle.std.specs.Prelude.{ℕ, ◌+◌, ◌≡◌, cond, List, [], ◌∷◌, map, eqb, length, get_or, set, replicate}
use Rattle.book_read.specs.Range.{Each}
use Rattle.model.specs.State.{Place, free, live, Batches}
use Rattle.tables.specs.Rows.{word, place_in, batch_rows}
use Rattle.tables.specs.Words.{batch_words, phase_of, rank_of, places_words}

-- the batches that the rows say, with the orders that stand beside them
abbrev pub view : (t queue pending : List ℕ) → Batches
view t queue pending = record { places = map place_in (batch_rows t); pending = pending; queue = queue }

-- a live row with another head
unfoldable pub headed : (phase rank memory : ℕ) → List ℕ → List ℕ
headed phase rank memory row = cond (eqb (word row 0) 0) row (set (set (set row 0 phase) 1 rank) 6 memory)

unfoldable pub headed_rows : Batches → (memory : List ℕ) → ℕ → List (List ℕ) → List (List ℕ)
headed_rows b m p [] = []
headed_rows b m p (row ∷ rs) = headed (phase_of b p) (rank_of b p) (get_or m p 0) row ∷ headed_rows b m (p + 1) rs

-- a place's words, its head that of a batch that is being assembled
abbrev pub bare_row : Place → List ℕ
bare_row free = replicate 349 0
bare_row (live x) = batch_words 1 0 0 x

-- a row is just the words of its place, whatever its head
abbrev pub Neat : List ℕ → Type 0
Neat row = headed 1 0 0 row ≡ bare_row (place_in row)

pub record NeatTable (t : List ℕ) : Type 0 where
  pub long : length t ≡ 11168
  pub rows : Each Neat (batch_rows t)

abbrev pub words_of : Batches → (memory : List ℕ) → List ℕ
words_of b m = places_words b m 0 b.places
