-- The texts of replies in the lent buffer: "Texts follow one another", each call's from its beginning, numbered on from those written that day.
use Rattle.std.specs.Prelude.{ℕ, zero, suc, ◌+◌, ◌*◌, ◌≤◌, ◌<◌, ◌≡◌, cond, List, [], ◌∷◌, map, length}
use Rattle.std.proofs.lemmas.List.Edits.{sets}
use Rattle.codes.specs.declared.Code.{Code}
use Rattle.dates.specs.Dates.{is_remembered}
use Rattle.response_write.specs.declared.Outcome.{Outcome}
use Rattle.model.specs.declared.Phase.TheVariants.{Open}
use Rattle.model.specs.State.{on_found, Day, Batches, Entry, place_at, place_messages, place_bin, batch_of}
use Rattle.model.specs.Replies.{Reply, settlement, replies_to, texts_from}
use Rattle.tables.specs.Rows.{code_at, place_in, batch_rows}

-- from a place on, after so many texts of the day, the texts of replies were written: the buffer, the place after them, the texts now
pub record Wrote (out : List ℕ) (from texts : ℕ) (rs : List Reply) (out' : List ℕ) (to texts' : ℕ) : Type 0 where
  pub bytes : out' ≡ sets out from (texts_from texts rs)
  pub end : to ≡ from + length (texts_from texts rs)
  pub count : texts' ≡ texts + length rs

-- they fit, and their numbers have seven digits
pub record Room (out : List ℕ) (from texts : ℕ) (rs : List Reply) : Type 0 where
  pub fits : from + length (texts_from texts rs) ≤ length out
  pub few : texts + length rs < 10000000

-- the batches that the rows say, without their orders
abbrev pub batches_on : List ℕ → Batches
batches_on t = record { places = map place_in (batch_rows t); pending = []; queue = [] }

-- "1 to 10 messages in a batch"
pub record Legible (t : List ℕ) : Type 0 where
  pub long : length t ≡ 11168
  pub few : (p : ℕ) → length (place_messages (place_at (batches_on t) p)) ≤ 10

-- the replies to the batch at a place
abbrev pub replies_at : List ℕ → ℕ → Outcome → List Reply
replies_at t p o = replies_to (place_messages (place_at (batches_on t) p)) (place_bin (place_at (batches_on t) p)) o

-- the same off one row
abbrev pub replies_in : List ℕ → Outcome → List Reply
replies_in row o = replies_to (place_messages (place_in row)) (place_bin (place_in row)) o

-- n messages of a row from message i on: "a batch's in arrival order"
unfoldable pub replies_from : List ℕ → Code → Outcome → (i n : ℕ) → List Reply
replies_from row bin o i zero = []
replies_from row bin o i (suc n) = settlement (code_at row (9 + 4 * i)) bin o ∷ replies_from row bin o (i + 1) n

-- an open day, as far as a text tells of it
abbrev pub day_at : (date clock : ℕ) → Day
day_at date clock = record { phase = Open; date = date; clock = clock; texts = 0 }

-- the place of the live batch of a remembered BIN; 32 where there is none
unfoldable pub arrived_at : ℕ → Batches → Entry → ℕ
arrived_at today b e = cond (is_remembered e.day today) (on_found (batch_of b e.code) 32 (λ p. p)) 32
