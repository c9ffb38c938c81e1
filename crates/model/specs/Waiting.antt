-- The order of the batches that wait, and their minutes.
use Rattle.std.specs.Prelude.{ℕ, zero, suc, ◌+◌, ◌/◌, ◌≡◌, Bool, true, false, ◌&&◌, not, List, [], ◌++◌, eqb, Ok, Err}
use Rattle.clock.specs.Clock.{minutes_of_day, has_begun}
use Rattle.book_read.specs.Book.{each}
use Rattle.queue.specs.Promise.{All}
use Rattle.model.specs.Answers.{Answer}
use Rattle.model.specs.Kinds.{Kind, opens, steps, gives, kind_of}
use Rattle.model.specs.State.{Batches, is_free, on_live, place_at}
use Rattle.model.specs.Joining.{place_minute, keep, time, is_due}
use Rattle.model.specs.Messages.{waits, is_complete}
use Rattle.model.specs.Calls.{Call, Engine, Result, judge, begun}
use Rattle.model.specs.Answered.{acted}

-- "by activation time and then by completion": minute by minute, n of them from minute m on, and those of one minute as they came
unfoldable pub minute_by_minute : (time : ℕ → ℕ) → (m n : ℕ) → List ℕ → List ℕ
minute_by_minute time m zero ps = []
minute_by_minute time m (suc n) ps = keep (λ p. eqb (time p) m) ps ++ minute_by_minute time (m + 1) n ps

-- the 32 places
abbrev pub all_places : List ℕ
all_places = each (λ p. p) 0 32

-- a batch stands at a place
abbrev pub is_live : Batches → ℕ → Bool
is_live b p = not (is_free (place_at b p))

-- what the action makes of the batches b: a batch is completed by it if all its numbers are there, and it did not wait before
abbrev pub is_new : Batches → Batches → ℕ → Bool
is_new b c p = on_live (place_at c p) false is_complete && not (waits b p)

-- the minute of the batch at a place has begun
abbrev pub has_started : (clock : ℕ) → Batches → ℕ → Bool
has_started clock b p = has_begun clock (place_minute (place_at b p))

-- "(b) pending batches whose minute has begun join the queue's tail"
unfoldable pub joined_in : (clock : ℕ) → Batches → List ℕ
joined_in clock b = minute_by_minute (time clock b) 0 minutes_of_day (keep (is_due clock b) b.pending)

module _ (e : Engine) (c : Call) where
  -- "When all numbers are there: .. pending if its activation minute has not begun, or the queue's tail": a batch completed in this call
  unfoldable pub completed_now : List ℕ
  completed_now = keep (is_new (begun e.state c.asked.clock).batches (acted e c).batches) all_places

  -- what waits after the call: the queue as it was, the joined, a batch completed now, and of these all that still stand, none having settled or been
  -- recalled or ended. So is the order of completion. "pending batches whose minute has begun join": nothing is tried before its minute
  pub record OrderKept (r : Result) : Type 0 where
    pub queue : r.engine.state.batches.queue
        ≡ keep (is_live r.engine.state.batches)
        ((e.state.batches.queue ++ joined_in c.asked.clock e.state.batches) ++ keep (has_started c.asked.clock (acted e c).batches) completed_now)
    pub pending : r.engine.state.batches.pending
        ≡ keep (is_live r.engine.state.batches)
        (keep (λ p. not (is_due c.asked.clock e.state.batches p)) e.state.batches.pending ++ keep (λ p. not (has_started c.asked.clock (acted e c).batches p)) completed_now)
    pub timely : All (λ t. has_started c.asked.clock (acted e c).batches (t / 2) ≡ true) r.tries

  -- a call without steps leaves both orders
  pub record Resting (r : Result) : Type 0 where
    pub queue : r.engine.state.batches.queue ≡ e.state.batches.queue
    pub pending : r.engine.state.batches.pending ≡ e.state.batches.pending

  abbrev pub OrderedBy : Answer → Kind → Result → Type 0
  OrderedBy (Err q) k r = Resting r
  OrderedBy (Ok tt) opens r = Resting r
  OrderedBy (Ok tt) steps r = OrderKept r
  OrderedBy (Ok tt) (gives date) r = Resting r

abbrev pub Ordered : Engine → Call → Result → Type 0
Ordered e c r = OrderedBy e c (judge e.state c) (kind_of c.asked.action) r
