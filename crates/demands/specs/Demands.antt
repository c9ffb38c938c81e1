-- The three demands, of the public functions `call` and `clear` (crate call_records). What each ensures of anything lent is its contract, `Called` and `Cleared`
-- (tables/specs/Lent) of the tables whose columns are the records' fields; so what is said here of all outcomes that keep the contracts is said of what the
-- functions leave.
use Rattle.std.specs.Prelude.{ℕ, ◌<◌, ◌≡◌, Bool, List, [], ◌∷◌, ◌++◌, map, length, get_or, take, drop, Ok, Err}
use Rattle.chars.specs.declared.Refusal.{Refusal}
use Rattle.chars.specs.declared.Refusal.TheVariants.{BrokenTables}
use Rattle.queue.specs.Promise.{taken_by}
use Rattle.model.specs.declared.Action.TheVariants.{Opening}
use Rattle.model.specs.declared.Phase.TheVariants.{Closed}
use Rattle.model.specs.State.{Batches, payments_at}
use Rattle.model.specs.Calls.{Call, Engine, Result, judge, call}
use Rattle.model.specs.Course.{Deed, clears, calls, start, course, since}
use Rattle.model.specs.Answered.{Accounted, awaiting}
use Rattle.model.specs.Arrival.{ByArrival}
use Rattle.model.specs.LeftBehind.{LeftBehind}
use Rattle.model.specs.Lettered.{LettersStay}
use Rattle.model.specs.Happened.{history, ByRule}
use Rattle.model.specs.Waiting.{Ordered}
use Rattle.model.specs.Promises.{Numbered, StrangersLeaveAll, Written, answered, OpensRight, Closes, Followed, ledger_after, no_ledger, Covered, NonePasses, Tried, Enough}
use Rattle.tables.specs.declared.Desk.{Desk}
use Rattle.tables.specs.Rows.{Tables, engine_in}
use Rattle.tables.specs.Lent.{Right, Called, Long, Cleared}
use Rattle.tables.specs.Running.{Lending, lent_to, call_in}
use Rattle.tables.specs.Choosing.{choose, AllSameBut}
use Rattle.call_records.specs.declared.Account.{Account}
use Rattle.call_records.specs.Records.{balances_of, waiting_of, tables_in, Outcome, seen_as, Beginning, wiped_as}

-- ---- "over any sequence of calls"

-- what a caller keeps between two calls: the desk, the accounts as a row of records, and the rows of batches, references and BINs
pub record Kept : Type 0 where
  pub desk : Desk
  pub row : List Account
  pub batches : List ℕ
  pub references : List ℕ
  pub bins : List ℕ

abbrev pub tables_on : Kept → Tables
tables_on x = tables_in x.row x.batches x.references x.bins

-- the engine that it says
abbrev pub engine_of : Kept → Engine
engine_of x = engine_in x.desk (tables_on x)

-- the contract of `call`, with k asked and lent; and of `clear`
abbrev pub Calls : Kept → Lending → Outcome → Type 0
Calls x k y = Called (lent_to x.desk (tables_on x) k) k.asked (seen_as y)

abbrev pub Clears : Kept → Beginning → Type 0
Clears x y = Cleared x.desk (tables_on x) (wiped_as y)

-- what they leave to be kept
abbrev pub left_by : Outcome → Kept
left_by y = record { desk = y.told.desk; row = y.row; batches = y.batches; references = y.references; bins = y.bins }

abbrev pub begun_by : Beginning → Kept
begun_by y = record { desk = y.start.desk; row = y.row; batches = y.batches; references = y.references; bins = y.bins }

-- what a caller does: it clears, or it calls with anything asked, and any buffer and row of tries lent
pub data Doing : Type 0 where
  clearing : Doing
  calling : Lending → Doing

-- what is kept after some doings: nothing else has altered it
pub data Came : Kept → List Doing → Kept → Type 0 where
  none : {x : Kept} → Came x [] x
  cleared : {x x' : Kept} {y : Beginning} {ds : List Doing} → Clears x y → Came (begun_by y) ds x' → Came x (clearing ∷ ds) x'
  called : {x x' : Kept} {k : Lending} {y : Outcome} {ds : List Doing} → Calls x k y → Came (left_by y) ds x' → Came x (calling k ∷ ds) x'

-- the same of the model
abbrev pub deed_of : Doing → Deed
deed_of clearing = clears
deed_of (calling k) = calls (call_in k)

abbrev pub deeds : List Doing → List Deed
deeds [] = []
deeds (d ∷ ds) = deed_of d ∷ deeds ds

-- what a call has left, as the model says it: the bytes and tries that it reports, and the engine that is now kept
abbrev pub told : Outcome → Result
told y = record {
  answer = y.told.answer;
  out = take y.told.written y.out;
  tries = take y.told.tried y.tries;
  engine = engine_of (left_by y);
}

-- of every call of the functions: rows of the right lengths, whatever they held, were cleared; then any doings; then the call. P is said of what was done since
-- the clearing, of the engine that the rules would have left by it, whatever was kept, of what was asked, and of what the call has left
abbrev pub EverySince : (List Deed → Engine → Call → Result → Type 0) → Type 0
EverySince P = (x x' : Kept) (ds : List Doing) → Long (tables_on x) → Came x (clearing ∷ ds) x' → (k : Lending) (y : Outcome) → Calls x' k y
    → P (deeds ds) (course call start (deeds ds)) (call_in k) (told y)

abbrev pub Everywhere : (Engine → Call → Result → Type 0) → Type 0
Everywhere P = EverySince (λ ds. P)

-- ---- demand 1: "Every call with any text, table, number or clock ends with a listed answer .. No caller has to check first. For each refusal it is stated
-- what comes back and what every lent table and buffer then holds." Of anything kept, anything asked, any buffer and row

abbrev pub as_it_was : Kept → Lending → Refusal → Outcome
as_it_was x k q = record {
  told = record { answer = Err q; written = 0; tried = 0; desk = x.desk };
  row = x.row;
  batches = x.batches;
  references = x.references;
  bins = x.bins;
  out = k.out;
  tries = k.tries;
}

pub record DemandOne (x : Kept) (k : Lending) (y : Outcome) : Type 0 where
  -- one outcome
  pub one : (z : Outcome) → Calls x k z → y ≡ z
  -- 06, exactly where a table breaks the rules: "nothing changed"
  pub broken_tables : (Right x.desk (tables_on x) → ⊥) → y ≡ as_it_was x k BrokenTables
  -- 05 and 07, by the moment and the room alone: "nothing changed"
  pub at_once : Right x.desk (tables_on x) → (q : Refusal) → judge (engine_of x).state (call_in k) ≡ Err q → y ≡ as_it_was x k q
  -- an opening that is refused: "nothing changed"
  pub opening : (q : Refusal) → k.asked.action ≡ Opening → y.told.answer ≡ Err q → y ≡ as_it_was x k q
  -- "In every other call both are as before past their reported lengths"
  pub out : drop y.told.written y.out ≡ drop y.told.written k.out
  pub tries : drop y.told.tried y.tries ≡ drop y.told.tried k.tries

-- of a clearing: "accepts any contents of the right lengths (else 06, its one refusal) and is a fresh start". Of anything kept
abbrev pub not_begun : Kept → Beginning
not_begun x = record {
  start = record { answer = Err BrokenTables; desk = x.desk };
  row = x.row;
  batches = x.batches;
  references = x.references;
  bins = x.bins;
}

pub record DemandOneOfClearing (x : Kept) (y : Beginning) : Type 0 where
  -- one outcome
  pub one : (z : Beginning) → Clears x z → y ≡ z
  -- 06, exactly where a row has another length: "nothing changed"
  pub broken_tables : (Long (tables_on x) → ⊥) → y ≡ not_begun x
  pub accepts : Long (tables_on x) → y.start.answer ≡ Ok tt
  pub fresh : Long (tables_on x) → engine_of (begun_by y) ≡ start

-- ---- demand 2: "Settlement and recall requests are accepted, or refused with the very code. Each response written reads back as the same response, a
-- closing book as the same accounts."

-- of what is kept after any doings
abbrev pub Whenever : (Kept → List Deed → Type 0) → Type 0
Whenever P = (x x' : Kept) (ds : List Doing) → Long (tables_on x) → Came x (clearing ∷ ds) x' → P x' (deeds ds)

pub record DemandTwo : Type 0 where
  -- the answer is 0 or the very number of document 01's order of tests
  pub numbers : Everywhere Numbered
  -- what a refusal has left, by its number
  pub left_behind : Everywhere LeftBehind
  -- the bytes are the texts of the call's replies, numbered on within the day, and each reads back as the response meant
  pub texts : Everywhere Written
  -- each message noted today was answered, or awaits its answer; none twice; at the close none awaits
  pub accounted : Whenever (λ x ds. Accounted (engine_of x).state (answered ds))
  pub none_left : Whenever (λ x ds. x.desk.phase ≡ Closed → awaiting (engine_of x).state ≡ [])
  -- "ends each live batch with 86 by arrival of its first message"
  pub by_arrival : Everywhere ByArrival
  -- a message of a sender that is not the stream's administrator leaves what a tick leaves
  pub strangers : Everywhere StrangersLeaveAll
  -- "else that debit's ESA letter is changed", and nothing else of any batch
  pub letters : Everywhere LettersStay
  -- an opening leaves its book's accounts, a closing book tells them: accepted, dated as asked, and a day opened with it begins with the same
  pub openings : Everywhere OpensRight
  pub books : Everywhere Closes

-- ---- demand 3: "Two queue tests, plain and quick. From a fresh start, over any sequence of calls, both give the same answers, response bytes, balances and
-- waiting batches in the same order; only their lists of tries may differ. Each balance is the day's opening balance plus credits less debits of the batches
-- settled since; every payer of a settled batch covered its own payment by the rule for its status, on the balances just before that batch; after each call no
-- queued batch would pass."

-- the same doings but for the tests that the calls choose
pub data ButTests : List Doing → List Doing → Type 0 where
  none : ButTests [] []
  clear : {ds es : List Doing} → ButTests ds es → ButTests (clearing ∷ ds) (clearing ∷ es)
  choice : {ds es : List Doing} (k : Lending) (p q : Bool) → ButTests ds es → ButTests (calling (choose p k) ∷ ds) (calling (choose q k) ∷ es)

-- doings one behind another, and the outcome of each call
pub data Ran : Kept → List Doing → List Outcome → Type 0 where
  none : {x : Kept} → Ran x [] []
  begins : {x : Kept} {y : Beginning} {ds : List Doing} {ys : List Outcome} → Clears x y → Ran (begun_by y) ds ys → Ran x (clearing ∷ ds) ys
  then : {x : Kept} {k : Lending} {y : Outcome} {ds : List Doing} {ys : List Outcome} → Calls x k y → Ran (left_by y) ds ys → Ran x (calling k ∷ ds) (y ∷ ys)

-- ticket 2: "the total of its debits in pending and queued batches", of one bank: its debits in each batch, added up
abbrev pub waits_against : Batches → (bank : ℕ) → ℕ
waits_against b k = taken_by k (map (payments_at b) (b.pending ++ b.queue))

-- of the totals of 64 records each is its bank's
pub record Totals (totals : List ℕ) (b : Batches) : Type 0 where
  pub all : length totals ≡ 64
  pub each : (k : ℕ) → k < 64 → get_or totals k 0 ≡ waits_against b k

pub record DemandThree : Type 0 where
  -- after a clearing the same calls and clearings, whichever test each call chooses: all that the calls leave is equal but for tries and the quick test's
  -- memory words
  pub alike : (x z : Kept) (ds es : List Doing) (ys zs : List Outcome) → ButTests ds es → Long (tables_on x) → Long (tables_on z) → Ran x (clearing ∷ ds) ys
      → Ran z (clearing ∷ es) zs → AllSameBut (map seen_as ys) (map seen_as zs)
  -- the lent balances are those of the opening book and of what settled since
  pub balances : Whenever (λ x ds. Followed (balances_of x.row) (ledger_after call start no_ledger (since ds)))
  -- the lent totals are those of the batches that wait, whatever was kept
  pub totals : Whenever (λ x ds. Totals (waiting_of x.row) (course call start ds).state.batches)
  pub covered : Everywhere Covered
  pub none_passes : Everywhere NonePasses
  -- what waits stands in its order, and nothing is tried before its minute
  pub ordered : Everywhere Ordered
  -- the plain test tries every queued batch on every walk, the quick one omits a try exactly by the rule, over all that was done since the clearing
  pub by_rule : EverySince (λ ds e c r. ByRule e (history start [] (since ds)) c r)
  -- the tries reported are those of the test chosen; 528 numbers and 33,705 bytes are enough
  pub tries : Everywhere Tried
  pub enough : Everywhere Enough
