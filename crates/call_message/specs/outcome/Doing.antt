-- What the stages of a message's action find and leave in the rows.
use Rattle.std.specs.Prelude.{ℕ, ◌+◌, ◌≤◌, ◌<◌, ◌≡◌, true, List, [], length, get_or, set}
use Rattle.chars.specs.Refusals.{number_of}
use Rattle.chars.specs.declared.Refusal.TheVariants.{Unequal}
use Rattle.codes.specs.declared.Code.{Code}
use Rattle.request_read.specs.declared.whole.Reading.{Reading}
use Rattle.response_write.specs.declared.Outcome.TheVariants.{Rejected}
use Rattle.settle.specs.Payments.{cents_of}
use Rattle.settle.specs.Rules.{most_cents}
use Rattle.settle.specs.Settlement.{Accounts, accounts}
use Rattle.book_read.specs.Range.{Each}
use Rattle.model.specs.Answers.{Answer}
use Rattle.model.specs.State.{at, seek, free, live, Batches, Known, State, is_free, place_at, payments_of, no_batches}
use Rattle.model.specs.Replies.{Reply}
use Rattle.model.specs.Messages.{Acted, ended, with_message, assembling, waiting}
use Rattle.model.specs.Calls.{woken}
use Rattle.model.specs.Rules.{RightBatch, is_reference}
use Rattle.model.proofs.Admitting.{TextGives, Takes}
use Rattle.model.proofs.Standing.{Stood}
use Rattle.tables.specs.declared.Desk.{Desk}
use Rattle.tables.specs.House.{house_on}
use Rattle.tables.specs.Moment.{day_on}
use Rattle.tables.specs.Rows.{batch_rows}
use Rattle.call_orders.specs.Stages.{seen, Ready, Became}
use Rattle.call_plan.specs.rules.Steps.{Counted}
pub use Rattle.call_plan.specs.rules.Steps.{batch_at}
use Rattle.call_plan.specs.declared.plan.Plan.{Plan}
use Rattle.call_plan.specs.declared.plan.Plan.TheVariants.{Untouched, Rejects, Alone, Comes, Begins, RecallsNone, Recalls}
use Rattle.call_texts.specs.Writing.{Wrote, Room, Legible, replies_at}

-- the state in the middle of a call: its batches stand in the rows
abbrev pub state_on : Desk → (codes flags : List ℕ) → Batches → Accounts → Known → State
state_on d codes flags b n k = record { day = day_on d; house = house_on d codes flags; books = n; batches = b; known = k }

-- as far as a message's payments are told by it
abbrev pub house_state : Desk → (codes flags : List ℕ) → State
house_state d codes flags = state_on d codes flags no_batches (accounts [] []) (record { references = []; bins = [] })

-- a batch was ended, and these replies were written
pub record Ends (rs : List Reply) (b : Batches) (p : ℕ) (m out : List ℕ) (from texts : ℕ) (t q : List ℕ) (nq : ℕ) (w : List ℕ) (nw : ℕ) (m' out' : List ℕ) (to texts' : ℕ) : Type 0 where
  pub batches : Became (ended b p) t q nq w nw
  pub memory : m' ≡ set m p 0
  pub replies : Wrote out from texts rs out' to texts'

-- what an action leaves stands in the rows, in the memory and in the buffer
pub record InRows (a : Acted) (m out : List ℕ) (from texts : ℕ) (answer : Answer) (t q : List ℕ) (nq : ℕ) (w : List ℕ) (nw : ℕ) (m' out' : List ℕ) (to texts' : ℕ) : Type 0 where
  pub answered : answer ≡ a.answer
  pub batches : Became a.batches t q nq w nw
  pub memory : m' ≡ woken a.wakes m
  pub replies : Wrote out from texts a.replies out' to texts'

-- a batch that has just taken a message
pub record Completable (t q : List ℕ) (nq : ℕ) (w : List ℕ) (nw p : ℕ) (out : List ℕ) (texts : ℕ) : Type 0 where
  pub ready : Ready t q nq w nw
  pub legible : Legible t
  pub below : p < 32
  pub there : place_at (seen t q nq w nw) p ≡ live (batch_at t p)
  pub counted : Counted (get_or (batch_rows t) p [])
  pub money : Each (λ x. cents_of x ≤ most_cents) (payments_of (batch_at t p).messages)
  pub queue_room : nq < length q
  pub pending_room : nw < length w
  pub room : Room out 0 texts (replies_at t p (Rejected (number_of Unequal)))

-- a batch that may take this message
pub record Takeable (d : Desk) (codes flags : List ℕ) (r : Reading) (t q : List ℕ) (nq : ℕ) (w : List ℕ) (nw p : ℕ) (out : List ℕ) : Type 0 where
  pub ready : Ready t q nq w nw
  pub legible : Legible t
  pub below : p < 32
  pub there : place_at (seen t q nq w nw) p ≡ live (batch_at t p)
  pub takes : Takes d.banks (batch_at t p)
  pub gives : TextGives r
  pub few : r.n ≤ 10
  pub few_banks : d.banks ≤ 64
  pub in_codes : d.banks ≤ length codes
  pub in_flags : d.banks ≤ length flags
  pub queue_room : nq < length q
  pub pending_room : nw < length w
  pub room : 1155 ≤ length out
  pub few_texts : d.texts + 11 < 10000000

-- the batch with this message in it keeps the rules
abbrev pub Fair : Desk → (codes flags : List ℕ) → Reading → (t : List ℕ) (p : ℕ) → Type 0
Fair d codes flags r t p = RightBatch d.banks (with_message (house_state d codes flags) r (batch_at t p))

-- the batches stay as they are, and these replies were written
pub record Stays (a : Answer) (rs : List Reply) (nq nw : ℕ) (out : List ℕ) (texts : ℕ) (answer : Answer) (nq' nw' : ℕ) (out' : List ℕ) (to texts' : ℕ) : Type 0 where
  pub answered : answer ≡ a
  pub queued : nq' ≡ nq
  pub pending : nw' ≡ nw
  pub replies : Wrote out 0 texts rs out' to texts'

-- a free place in which this message may begin a batch
pub record Beginnable (d : Desk) (codes flags : List ℕ) (r : Reading) (t q : List ℕ) (nq : ℕ) (w : List ℕ) (nw p : ℕ) (out : List ℕ) : Type 0 where
  pub ready : Ready t q nq w nw
  pub legible : Legible t
  pub below : p < 32
  pub free_there : place_at (seen t q nq w nw) p ≡ free
  pub gives : TextGives r
  pub few : r.n ≤ 10
  pub few_banks : d.banks ≤ 64
  pub in_codes : d.banks ≤ length codes
  pub in_flags : d.banks ≤ length flags
  pub queue_room : nq < length q
  pub pending_room : nw < length w
  pub room : 1155 ≤ length out
  pub few_texts : d.texts + 11 < 10000000

-- the middle of a call, before its own action
pub record Actable (d : Desk) (codes flags : List ℕ) (t q : List ℕ) (nq : ℕ) (w : List ℕ) (nw : ℕ) (out : List ℕ) : Type 0 where
  pub ready : Ready t q nq w nw
  pub stood : Stood d.banks (seen t q nq w nw)
  pub few_banks : d.banks ≤ 64
  pub in_codes : d.banks ≤ length codes
  pub in_flags : d.banks ≤ length flags
  pub queue_room : nq < length q
  pub pending_room : nw < length w
  pub room : 1155 ≤ length out
  pub few_texts : d.texts + 11 < 10000000

abbrev pub reference_of : Reading → Code
reference_of r = r.head.reference.code

abbrev pub bin_of : Reading → Code
bin_of r = r.head.address.bin.code

-- what is known of a plan that was chosen
abbrev pub Apt : Batches → Reading → Plan → Type 0
Apt b r (Untouched f) = Unit {0}
Apt b r (Rejects p f) = assembling b (bin_of r) ≡ at p
Apt b r (Alone q) = TextGives r
Apt b r (Comes p i q) = (assembling b (bin_of r) ≡ at p) × TextGives r × (r.n ≤ 10) × (i ≤ 8)
Apt b r (Begins p i q j) = (seek is_free b.places ≡ at p) × TextGives r × (r.n ≤ 10) × (i ≤ 8)
Apt b r (RecallsNone q) = is_reference (reference_of r) ≡ true
Apt b r (Recalls p q) = (waiting b (bin_of r) ≡ at p) × (is_reference (reference_of r) ≡ true)
