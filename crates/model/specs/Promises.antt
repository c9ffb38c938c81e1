-- The words of the three demands, over any calls and clearings from a start. Each is said of what a call leaves, f, so that it can be held against any
-- engine; `call` keeps them all (proofs/Promises.antt), and the engines that are shut out break one each (crate thm_wrong_engines).
use Rattle.std.specs.Prelude.{ℕ, suc, ◌+◌, ◌≤◌, ◌<◌, ◌≡◌, Bool, true, false, ◌&&◌, cond, List, [], ◌∷◌, ◌++◌, map, length, get_or, replicate, Some, Ok, Err}
use Rattle.std.proofs.lemmas.List.Edits.{sets}
use Rattle.chars.specs.declared.Refusal.{Refusal}
use Rattle.codes.specs.declared.Code.{Code}
use Rattle.dates.specs.Dates.{day_of}
use Rattle.request_read.specs.whole.Request.{request_at}
use Rattle.request_read.specs.declared.whole.Reading.{Reading}
use Rattle.response_read.specs.Reply.{response_at}
use Rattle.response_read.specs.declared.Reply.{Reply as Response}
use Rattle.response_read.specs.declared.Reply.TheVariants.{Settlement, Recall}
use Rattle.book_read.specs.Book.{book_check}
use Rattle.book_read.specs.Accounts.{day_in, streams_in, banks_in}
use Rattle.settle.specs.Payments.{Payment}
use Rattle.settle.specs.Rules.{sum}
use Rattle.queue.specs.Tests.{passed_of}
use Rattle.queue.specs.Promise.{Trail, Stuck, brought_by, taken_by}
use Rattle.model.specs.Answers.{Answer}
use Rattle.model.specs.declared.Action.{Action}
use Rattle.model.specs.declared.Action.TheVariants.{Opening, Message, Tick, ClosingBook}
use Rattle.model.specs.declared.Phase.TheVariants.{Open}
use Rattle.model.specs.Kinds.{Kind, opens, steps, gives, kind_of, on_kind, is_opens}
use Rattle.model.specs.State.{at, State, payments_at}
use Rattle.model.specs.Replies.{Reply, settlement, recall, bin_stream, text_of, texts_from}
use Rattle.model.specs.Messages.{Acted, stream_code, stream_place, administrator}
use Rattle.model.specs.Days.{opened, opening_answer, banks_of, closing_text}
use Rattle.model.specs.Calls.{Call, Engine, Result, room_needed, rows_needed, judge, begun, refused, call, cleared}
use Rattle.model.specs.Course.{start, Deed, clears, calls, course, since}
use Rattle.model.specs.Answered.{acted, outcome, stepped_replies, replies_of, answered_after}
use Rattle.model.specs.Happened.{history, ByRule}

-- of each call after any calls and clearings: the engine that the rules leave before it, the call, and what f leaves after the same deeds
abbrev pub Always : (Engine → Call → Result) → (Engine → Call → Result → Type 0) → Type 0
Always f P = (ds : List Deed) (c : Call) → P (course call start ds) c (f (course f start ds) c)

-- and of each result of some calls from an engine on, as `run` gives them
abbrev pub Along : (Engine → Call → Result → Type 0) → Engine → List Call → List Result → Type 0
Along P e [] rs = rs ≡ []
Along P e (c ∷ cs) [] = ⊥
Along P e (c ∷ cs) (r ∷ rs) = P e c r × Along P r.engine cs rs

-- ---- demand 1

-- "nothing changed": 05 and 07, and an opening that is refused
pub record Unchanged (e : Engine) (c : Call) (r : Result) : Type 0 where
  pub at_once : (q : Refusal) → judge e.state c ≡ Err q → r ≡ refused e q
  pub opening : (q : Refusal) → c.asked.action ≡ Opening → r.answer ≡ Err q → r ≡ refused e q

-- "output buffer .. 33,705 bytes (closing book: .. its own length), try row .. 528 numbers" are enough
abbrev pub Enough : Engine → Call → Result → Type 0
Enough e c r = (length r.out ≤ room_needed c.asked.action e.state) × (length r.tries ≤ rows_needed)

-- ---- demand 2

-- "Each engine call returns 0 or its own action's number."
abbrev pub numbered_by : Answer → Kind → Engine → Call → Answer
numbered_by (Err r) k e c = Err r
numbered_by (Ok tt) k e c = on_kind k (opening_answer e.state.day c.asked.input) (acted e c).answer (λ date. Ok tt)

abbrev pub Numbered : Engine → Call → Result → Type 0
Numbered e c r = r.answer ≡ numbered_by (judge e.state c) (kind_of c.asked.action) e c

-- the bytes of a call: its replies' texts, numbered on from those written today, or the closing book
abbrev pub out_by : Answer → Kind → Engine → Call → List ℕ
out_by (Err r) k e c = []
out_by (Ok tt) k e c = on_kind k [] (texts_from e.state.day.texts (stepped_replies e c)) (closing_text e.state)

unfoldable pub out_of : Engine → Call → List ℕ
out_of e c = out_by (judge e.state c) (kind_of c.asked.action) e c

-- the response that a reply is, with its number
abbrev pub response_of : ℕ → Reply → Response
response_of n (settlement r b o) = Settlement (record { number = n; reference = r; stream = bin_stream b; bin = b; outcome = o })
response_of n (recall r a) = Recall (record { number = n; reference = r; answer = a })

-- texts numbered on from n, each read back as its reply
unfoldable pub ReadBack : ℕ → List Reply → Type 0
ReadBack n [] = Unit {0}
ReadBack n (y ∷ ys) = ((response_at (text_of (n + 1) y)).reply ≡ response_of (n + 1) y) × ReadBack (n + 1) ys

-- the bytes are the texts of the call's replies, or the closing book; and each text reads back as the response meant
abbrev pub Written : Engine → Call → Result → Type 0
Written e c r = (r.out ≡ out_of e c) × ReadBack e.state.day.texts (replies_of e c)

-- the engine after some deeds, and what was answered on its last opened day
abbrev pub then : List Deed → State
then ds = (course call start ds).state

abbrev pub answered : List Deed → List Code
answered ds = answered_after start [] (since ds)

-- what a book tells of the engine's tables
pub record Tells (s : State) (date : ℕ) (out : List ℕ) : Type 0 where
  pub accepted : book_check out ≡ Ok tt
  -- "A closing book carries the date given"
  pub dated : day_of date ≡ Some (day_in out)
  pub streams : streams_in out ≡ s.house.streams
  pub banks : banks_in out ≡ banks_of s.house s.books
  -- a day that is opened with it begins with the same house and accounts
  pub house : (t : State) (clock : ℕ) → (opened t clock out).house ≡ s.house
  pub books : (t : State) (clock : ℕ) → (opened t clock out).books ≡ s.books

-- an opening that is done leaves what its book says; "an opening sets the clock anew"; references and BINs stay as they were
pub record Opens (e : Engine) (clock : ℕ) (book : List ℕ) (s : State) : Type 0 where
  pub day : s.day ≡ record { phase = Open; date = day_in book; clock = clock; texts = 0 }
  pub streams : s.house.streams ≡ streams_in book
  pub count : s.house.banks ≡ length (banks_in book)
  pub banks : banks_of s.house s.books ≡ banks_in book
  pub batches : s.batches ≡ e.state.batches
  pub known : s.known ≡ e.state.known

abbrev pub OpensRight : Engine → Call → Result → Type 0
OpensRight e c r = c.asked.action ≡ Opening → r.answer ≡ Ok tt → Opens e c.asked.clock c.asked.input r.engine.state

-- of a call that gives one
abbrev pub Closes : Engine → Call → Result → Type 0
Closes e c r = (date : ℕ) → c.asked.action ≡ ClosingBook date → r.answer ≡ Ok tt → Tells e.state date r.out

-- ---- demand 3

-- "Both report their tries in order": those of the test that was chosen, on the batches that the action left
abbrev pub tries_by : Answer → Kind → Engine → Call → List ℕ
tries_by (Err r) k e c = []
tries_by (Ok tt) k e c = on_kind k [] (outcome e c).tries (λ date. [])

abbrev pub Tried : Engine → Call → Result → Type 0
Tried e c r = r.tries ≡ tries_by (judge e.state c) (kind_of c.asked.action) e c

-- "after each call no queued batch would pass"
abbrev pub NonePasses : Engine → Call → Result → Type 0
NonePasses e c r = Stuck (payments_at r.engine.state.batches) r.engine.state.books r.engine.state.batches.queue

-- "every payer of a settled batch covered its own payment on the balances just before that batch": of the batches whose tries passed
abbrev pub CoveredBy : Answer → Kind → Engine → Call → Result → Type 0
CoveredBy (Err q) k e c r = r.engine.state.books ≡ e.state.books
CoveredBy (Ok tt) opens e c r = Unit {0}
CoveredBy (Ok tt) steps e c r = Trail (payments_at (acted e c).batches) (acted e c).books (passed_of r.tries) r.engine.state.books
CoveredBy (Ok tt) (gives date) e c r = r.engine.state.books ≡ e.state.books

abbrev pub Covered : Engine → Call → Result → Type 0
Covered e c r = CoveredBy (judge e.state c) (kind_of c.asked.action) e c r

-- the day's opening balances, and the batches settled since
pub record Ledger : Type 0 where
  pub opening : List ℕ
  pub gone : List (List Payment)

-- the ledger of the start
abbrev pub no_ledger : Ledger
no_ledger = record { opening = replicate 64 0; gone = [] }

abbrev pub is_done : Answer → Bool
is_done (Ok tt) = true
is_done (Err r) = false

-- an opening that is done begins both anew: the balances are those of its book, and zero past its banks. Settled are the batches whose tries passed
abbrev pub ledger_in : Kind → (book : List ℕ) → Acted → Result → Ledger → Ledger
ledger_in k book a r l =
    cond (is_opens k && is_done r.answer)
    (record { opening = sets (replicate 64 0) 0 (map (λ b. b.balance) (banks_in book)); gone = [] })
    (record { opening = l.opening; gone = l.gone ++ map (payments_at a.batches) (passed_of r.tries) })

unfoldable pub ledger_after : (Engine → Call → Result) → Engine → Ledger → List Call → Ledger
ledger_after f e l [] = l
ledger_after f e l (c ∷ cs) = ledger_after f (f e c).engine (ledger_in (kind_of c.asked.action) c.asked.input (acted e c) (f e c) l) cs

-- "each balance is the day's opening balance plus credits less debits of the batches settled since; the total never changes within a day"
pub record Followed (balances : List ℕ) (l : Ledger) : Type 0 where
  pub each : (k : ℕ) → k < 64 → get_or balances k 0 + taken_by k l.gone ≡ get_or l.opening k 0 + brought_by k l.gone
  pub total : sum balances ≡ sum l.opening

abbrev pub BalancesFollow : (Engine → Call → Result) → Type 0
BalancesFollow f = (ds : List Deed) → Followed (course f start ds).state.books.balances (ledger_after f start no_ledger (since ds))

-- what a caller sees of a call but for its tries
pub record View : Type 0 where
  pub answer : Answer
  pub out : List ℕ
  pub state : State

abbrev pub view : Result → View
view r = record { answer = r.answer; out = r.out; state = r.engine.state }

-- the same call with a test of one's choice
abbrev pub by : Bool → Call → Call
by q c = record { asked = record { quick = q; clock = c.asked.clock; action = c.asked.action; input = c.asked.input }; room = c.room; rows = c.rows }

-- the deeds, each call with the test that `quick` chooses for it
unfoldable pub chosen : (ℕ → Bool) → List Deed → List Deed
chosen quick [] = []
chosen quick (clears ∷ ds) = clears ∷ chosen quick ds
chosen quick (calls c ∷ ds) = calls (by (quick 0) c) ∷ chosen (λ i. quick (suc i)) ds

-- "From a fresh start, over any sequence of calls, both give the same answers, response bytes, balances and waiting batches in the same order"
unfoldable pub views_by : (Engine → Call → Result) → Engine → List Deed → List View
views_by f e [] = []
views_by f e (clears ∷ ds) = views_by f cleared ds
views_by f e (calls c ∷ ds) = view (f e c) ∷ views_by f (f e c).engine ds

abbrev pub SameSeen : (Engine → Call → Result) → Type 0
SameSeen f = (ds : List Deed) (x y : ℕ → Bool) → views_by f start (chosen x ds) ≡ views_by f start (chosen y ds)

-- "Agreement is stated over the cover rule": what both leave has settled just what is covered, and nothing that would pass is left
pub record Agree (f : Engine → Call → Result) : Type 0 where
  pub alike : SameSeen f
  pub covered : Always f Covered
  pub none_passes : Always f NonePasses

-- the two tests by the rule, over all that has happened since the start
abbrev pub TestsByRule : (Engine → Call → Result) → Type 0
TestsByRule f = (ds : List Deed) (c : Call) → ByRule (course call start ds) (history start [] (since ds)) c (f (course f start ds) c)

-- ---- strangers

-- "sender not that stream's administrator"
abbrev pub Stranger : State → (sender : ℕ) → Reading → Type 0
Stranger s sender r = (i : ℕ) → stream_place s.house (stream_code s r) ≡ at i → sender ≡ administrator s.house i → ⊥

-- the same call with another action
abbrev pub asking : Action → Call → Call
asking a c = record { asked = record { quick = c.asked.quick; clock = c.asked.clock; action = a; input = c.asked.input }; room = c.room; rows = c.rows }

-- results that differ in their answers at most
pub record Alike (x y : Result) : Type 0 where
  pub out : x.out ≡ y.out
  pub tries : x.tries ≡ y.tries
  pub engine : x.engine ≡ y.engine

-- "Letting a stranger's message end another administrator's batch" is an error: such a message leaves what a tick at its clock leaves
abbrev pub StrangersLeaveAll : Engine → Call → Result → Type 0
StrangersLeaveAll e c r = (sender : ℕ) → c.asked.action ≡ Message sender
    → Stranger (begun e.state c.asked.clock) sender (request_at c.asked.input) → Alike r (call e (asking Tick c))
