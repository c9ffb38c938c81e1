-- The three demands, of the functions that a program in C calls on rows of words: `purmagheli_call_rows` and `purmagheli_clear_rows` (crate c_engine). Their
-- contracts are `CalledWords` and `ClearedWords` (c_engine/specs/Lending). What a promise says of what is kept, it says here of what the words say.
use Rattle.std.specs.Prelude.{ℕ, ◌≤◌, ◌<◌, ◌≡◌, Bool, cond, List, [], ◌∷◌, leb, length, get_or, Err}
use Rattle.chars.specs.Refusals.{number_of}
use Rattle.chars.specs.declared.Refusal.{Refusal}
use Rattle.chars.specs.declared.Refusal.TheVariants.{BrokenTables, ShortBuffer}
use Rattle.model.specs.declared.Phase.TheVariants.{Closed}
use Rattle.model.specs.Answers.{Answer, answer_number}
use Rattle.model.specs.Calls.{Asked, Call, Engine, Result, judge, call}
use Rattle.model.specs.Course.{Deed, start, course, since}
use Rattle.model.specs.Answered.{Accounted, awaiting}
use Rattle.model.specs.Arrival.{ByArrival}
use Rattle.model.specs.LeftBehind.{LeftBehind}
use Rattle.model.specs.Lettered.{LettersStay}
use Rattle.model.specs.Happened.{history, ByRule}
use Rattle.model.specs.Waiting.{Ordered}
use Rattle.model.specs.Promises.{Numbered, StrangersLeaveAll, Written, answered, OpensRight, Closes, Followed, ledger_after, no_ledger, Covered, NonePasses, Tried, Enough}
use Rattle.tables.specs.Lent.{Right}
use Rattle.tables.specs.Running.{Lending, call_in}
use Rattle.tables.specs.Choosing.{SameBut}
use Rattle.call_records.specs.Records.{balances_of, waiting_of, Outcome}
use Rattle.c_engine.specs.Lending.{desk_in, banks_in, EngineWords, Words, Returned, refused_with, unchanged, InShape, CalledWords, seen_with, LongWords, Started, no_words, ClearedWords}
use Rattle.demands.specs.Demands.{Kept, tables_on, engine_of, Doing, clearing, calling, deeds, told, DemandOne, Totals}

-- ---- "over any sequence of calls"

-- what the words say that a program in C keeps
abbrev pub kept_by : EngineWords → Kept
kept_by e = record { desk = desk_in e.desk; row = banks_in e.banks; batches = e.batches; references = e.references; bins = e.bins }

-- what is asked, and the buffer, the row of tries and the report lent
pub record LendingWords : Type 0 where
  pub asked : Asked
  pub out : List ℕ
  pub tries : List ℕ
  pub report : List ℕ

abbrev pub words_of : EngineWords → LendingWords → Words
words_of e k = record { engine = e; out = k.out; tries = k.tries; report = k.report }

abbrev pub lending_of : LendingWords → Lending
lending_of k = record { asked = k.asked; out = k.out; tries = k.tries }

-- the contracts of the two functions, on the words x
abbrev pub CallsWords : EngineWords → LendingWords → Returned → Type 0
CallsWords x k y = CalledWords (words_of x k) k.asked y

pub data DoingWords : Type 0 where
  clears : DoingWords
  calls : LendingWords → DoingWords

-- the words after some calls and clearings: nothing else has altered them
pub data CameWords : EngineWords → List DoingWords → EngineWords → Type 0 where
  none : {x : EngineWords} → CameWords x [] x
  cleared : {x x' : EngineWords} {y : Started} {ds : List DoingWords} → ClearedWords x y → CameWords y.words ds x' → CameWords x (clears ∷ ds) x'
  called : {x x' : EngineWords} {k : LendingWords} {y : Returned} {ds : List DoingWords} → CallsWords x k y → CameWords y.words.engine ds x'
      → CameWords x (calls k ∷ ds) x'

-- as the rules see them: a call whose report has no room changes nothing and is none
abbrev pub seen_doing : Bool → LendingWords → List Doing → List Doing
seen_doing b k ds = cond b (calling (lending_of k) ∷ ds) ds

abbrev pub doings : List DoingWords → List Doing
doings [] = []
doings (clears ∷ ds) = clearing ∷ doings ds
doings (calls k ∷ ds) = seen_doing (leb 2 (length k.report)) k (doings ds)

-- what a call has left, by the answer whose number it returned
abbrev pub outcome_by : Answer → Returned → Outcome
outcome_by answer y = record {
  told = record { answer = answer; written = get_or y.words.report 0 0; tried = get_or y.words.report 1 0; desk = desk_in y.words.engine.desk };
  row = banks_in y.words.engine.banks;
  batches = y.words.engine.batches;
  references = y.words.engine.references;
  bins = y.words.engine.bins;
  out = y.words.out;
  tries = y.words.tries;
}

pub record Says (P : Outcome → Type 0) (y : Returned) : Type 0 where
  pub answer : Answer
  pub numbered : y.number ≡ answer_number answer
  pub is : P (outcome_by answer y)

-- of every call of a program in C: words of the right lengths, whatever they held, were cleared; then any calls and clearings; then the call
abbrev pub EverySinceWords : (List Deed → Engine → Call → Result → Type 0) → Type 0
EverySinceWords P = (x x' : EngineWords) (ds : List DoingWords) → LongWords x → CameWords x (clears ∷ ds) x' → (k : LendingWords) → 2 ≤ length k.report
    → (y : Returned) → CallsWords x' k y → Says (λ o. P (deeds (doings ds)) (course call start (deeds (doings ds))) (call_in (lending_of k)) (told o)) y

abbrev pub EverywhereWords : (Engine → Call → Result → Type 0) → Type 0
EverywhereWords P = EverySinceWords (λ ds. P)

-- of what the words say after any calls and clearings
abbrev pub WheneverWords : (Kept → List Deed → Type 0) → Type 0
WheneverWords P = (x x' : EngineWords) (ds : List DoingWords) → LongWords x → CameWords x (clears ∷ ds) x' → P (kept_by x') (deeds (doings ds))

-- ---- demand 1, of any words

abbrev pub RightWords : EngineWords → Type 0
RightWords x = Right (desk_in x.desk) (tables_on (kept_by x))

pub record OneOfCalls (x : EngineWords) (k : LendingWords) (y : Returned) : Type 0 where
  -- one outcome
  pub one : (z : Returned) → CallsWords x k z → y ≡ z
  -- a report of fewer than two words: 07, nothing changed
  pub short : length k.report < 2 → y ≡ refused_with ShortBuffer (words_of x k)
  -- a desk or a row of banks that is none: 06, nothing changed
  pub shape : 2 ≤ length k.report → (InShape (words_of x k) → ⊥) → y ≡ refused_with BrokenTables (words_of x k)
  -- words that break the table rules: 06; 05 and 07 at once. Nothing changed but the report, which says that nothing was written
  pub broken_tables : 2 ≤ length k.report → InShape (words_of x k) → (RightWords x → ⊥) → y ≡ unchanged BrokenTables (words_of x k)
  pub at_once : 2 ≤ length k.report → InShape (words_of x k) → RightWords x → (q : Refusal)
      → judge (engine_of (kept_by x)).state (call_in (lending_of k)) ≡ Err q → y ≡ unchanged q (words_of x k)
  -- and all of demand 1, of what the words say
  pub seen : 2 ≤ length k.report → InShape (words_of x k) → Says (λ o. DemandOne (kept_by x) (lending_of k) o) y

pub record OneOfClearings (x : EngineWords) (y : Started) : Type 0 where
  pub one : (z : Started) → ClearedWords x z → y ≡ z
  -- 06, exactly where a row has another length: "nothing changed"
  pub broken_tables : (LongWords x → ⊥) → y ≡ record { number = number_of BrokenTables; words = x }
  -- "a fresh start: all zero"
  pub fresh : LongWords x → y ≡ record { number = 0; words = no_words }

-- ---- demand 3: two runs

abbrev pub choose_words : Bool → LendingWords → LendingWords
choose_words q k = record {
  asked = record { quick = q; clock = k.asked.clock; action = k.asked.action; input = k.asked.input };
  out = k.out;
  tries = k.tries;
  report = k.report;
}

-- the same calls and clearings but for the tests that the calls choose
pub data ButTestsWords : List DoingWords → List DoingWords → Type 0 where
  none : ButTestsWords [] []
  clear : {ds es : List DoingWords} → ButTestsWords ds es → ButTestsWords (clears ∷ ds) (clears ∷ es)
  choice : {ds es : List DoingWords} (k : LendingWords) (p q : Bool) → ButTestsWords ds es
      → ButTestsWords (calls (choose_words p k) ∷ ds) (calls (choose_words q k) ∷ es)

-- calls and clearings one behind another, and what each call returned that the rules see
pub data RanWords : EngineWords → List DoingWords → List Returned → Type 0 where
  none : {x : EngineWords} → RanWords x [] []
  begins : {x : EngineWords} {y : Started} {ds : List DoingWords} {ys : List Returned} → ClearedWords x y → RanWords y.words ds ys
      → RanWords x (clears ∷ ds) ys
  short : {x : EngineWords} {k : LendingWords} {y : Returned} {ds : List DoingWords} {ys : List Returned} → length k.report < 2 → CallsWords x k y
      → RanWords y.words.engine ds ys → RanWords x (calls k ∷ ds) ys
  then : {x : EngineWords} {k : LendingWords} {y : Returned} {ds : List DoingWords} {ys : List Returned} → 2 ≤ length k.report → CallsWords x k y
      → RanWords y.words.engine ds ys → RanWords x (calls k ∷ ds) (y ∷ ys)

-- equal numbers; and what the words say is equal but for tries and the quick test's memory words
pub record SameWords (y z : Returned) : Type 0 where
  pub number : y.number ≡ z.number
  pub answer : Answer
  pub says : SameBut (seen_with answer y) (seen_with answer z)

abbrev pub AllSameWords : List Returned → List Returned → Type 0
AllSameWords [] [] = Unit {0}
AllSameWords [] (z ∷ zs) = ⊥
AllSameWords (y ∷ ys) [] = ⊥
AllSameWords (y ∷ ys) (z ∷ zs) = SameWords y z × AllSameWords ys zs

-- ---- the three demands: each promise under the name that it has in Demands.antt

pub record DemandsOfWords : Type 0 where
  -- demand 1
  pub one_of_calls : (x : EngineWords) (k : LendingWords) (y : Returned) → CallsWords x k y → OneOfCalls x k y
  pub one_of_clearings : (x : EngineWords) (y : Started) → ClearedWords x y → OneOfClearings x y
  -- demand 2
  pub numbers : EverywhereWords Numbered
  pub left_behind : EverywhereWords LeftBehind
  pub texts : EverywhereWords Written
  pub accounted : WheneverWords (λ x ds. Accounted (engine_of x).state (answered ds))
  pub none_left : WheneverWords (λ x ds. x.desk.phase ≡ Closed → awaiting (engine_of x).state ≡ [])
  pub by_arrival : EverywhereWords ByArrival
  pub strangers : EverywhereWords StrangersLeaveAll
  pub letters : EverywhereWords LettersStay
  pub openings : EverywhereWords OpensRight
  pub books : EverywhereWords Closes
  -- demand 3
  pub alike : (x z : EngineWords) (ds es : List DoingWords) (ys zs : List Returned) → ButTestsWords ds es → LongWords x → LongWords z
      → RanWords x (clears ∷ ds) ys → RanWords z (clears ∷ es) zs → AllSameWords ys zs
  pub balances : WheneverWords (λ x ds. Followed (balances_of x.row) (ledger_after call start no_ledger (since ds)))
  pub totals : WheneverWords (λ x ds. Totals (waiting_of x.row) (course call start ds).state.batches)
  pub covered : EverywhereWords Covered
  pub none_passes : EverywhereWords NonePasses
  pub ordered : EverywhereWords Ordered
  pub by_rule : EverySinceWords (λ ds e c r. ByRule e (history start [] (since ds)) c r)
  pub tries : EverywhereWords Tried
  pub enough : EverywhereWords Enough
