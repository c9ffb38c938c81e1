-- What a stage of a call finds and leaves: the table, and the rows of the queue and of the pending beside it.
use Rattle.std.specs.Prelude.{ℕ, ◌≤◌, ◌≡◌, Bool, cond, List, [], ◌∷◌, ◌++◌, map, length, get_or, take}
use Rattle.clock.specs.Clock.{has_begun}
use Rattle.model.specs.State.{Place, free, Batches}
use Rattle.queue.specs.Memory.{forgotten}
use Rattle.model.specs.Joining.{place_minute}
use Rattle.model.specs.Ending.{emptied}
use Rattle.tables.specs.Rows.{place_in, batch_rows}
use Rattle.call_orders.specs.Heads.{view, NeatTable}

-- the batches that they say
abbrev pub seen : (t q : List ℕ) (nq : ℕ) (w : List ℕ) (nw : ℕ) → Batches
seen t q nq w nw = view t (take nq q) (take nw w)

pub record Ready (t q : List ℕ) (nq : ℕ) (w : List ℕ) (nw : ℕ) : Type 0 where
  pub table : NeatTable t
  pub queue : nq ≤ length q
  pub pending : nw ≤ length w

-- they say the batches b now
pub record Became (b : Batches) (t q : List ℕ) (nq : ℕ) (w : List ℕ) (nw : ℕ) : Type 0 where
  pub ready : Ready t q nq w nw
  pub is : seen t q nq w nw ≡ b

abbrev pub places_in : List ℕ → List Place
places_in t = map place_in (batch_rows t)

-- the minute of a place's batch
abbrev pub minute_at : List ℕ → ℕ → ℕ
minute_at t p = place_minute (get_or (places_in t) p free)

abbrev pub due_at : List ℕ → ℕ → ℕ → Bool
due_at t clock p = has_begun clock (minute_at t p)

-- a batch goes to the tail of the queue, or of the pending
unfoldable pub tailed : Bool → Batches → ℕ → Batches
tailed begun b p = record {
  places = b.places;
  pending = cond begun b.pending (b.pending ++ (p ∷ []));
  queue = cond begun (b.queue ++ (p ∷ [])) b.queue;
}

-- batches are ended: their places are free, and they are not remembered as held
pub record Emptied (done t m t' m' : List ℕ) : Type 0 where
  pub table : NeatTable t'
  pub places : places_in t' ≡ emptied done (places_in t)
  pub memory : m' ≡ forgotten done m
