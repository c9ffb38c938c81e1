-- What a program in C lends is rows of words: the desk, the banks, batches, references and BINs. What they say to the rules, and the words that a call
-- leaves in them.
use Rattle.std.specs.Prelude.{ℕ, ◌≤◌, ◌<◌, ◌≡◌, Bool, not, cond, List, [], ◌∷◌, eqb, length, get_or, take, drop, replicate}
use Rattle.std.proofs.lemmas.List.Edits.{sets}
use Rattle.chars.specs.Words.{Says}
use Rattle.chars.specs.Refusals.{number_of}
use Rattle.chars.specs.declared.Refusal.{Refusal}
use Rattle.chars.specs.declared.Refusal.TheVariants.{BrokenTables, ShortBuffer}
use Rattle.settle.specs.Payments.{table_length}
use Rattle.model.specs.declared.Action.{Action}
use Rattle.model.specs.declared.Action.TheVariants.{Opening, Message, SubLimit, Status, Tick, Close, ClosingBook}
use Rattle.model.specs.declared.Phase.{Phase}
use Rattle.model.specs.declared.Phase.TheVariants.{Fresh, Open, Closed}
use Rattle.model.specs.Answers.{Answer, answer_number}
use Rattle.model.specs.Calls.{Asked}
use Rattle.tables.specs.declared.Desk.{Desk}
use Rattle.tables.specs.Rows.{Tables}
use Rattle.tables.specs.Lent.{Lent, Left, Called}
use Rattle.call.specs.step.Stepping.{lent_as}
use Rattle.call_records.specs.declared.Account.{Account}
use Rattle.call_records.specs.Records.{tables_in, row_in}

-- ---- the desk: 22 words

abbrev pub phase_by : ℕ → Phase
phase_by n = cond (eqb n 0) Fresh (cond (eqb n 1) Open Closed)

abbrev pub phase_word : Phase → ℕ
phase_word Fresh = 0
phase_word Open = 1
phase_word Closed = 2

-- phase, date, clock, texts, banks, streams in use; then 8 times code and administrator
unfoldable pub desk_in : List ℕ → Desk
desk_in w = record {
  phase = phase_by (get_or w 0 0);
  date = get_or w 1 0;
  clock = get_or w 2 0;
  texts = get_or w 3 0;
  banks = get_or w 4 0;
  n = get_or w 5 0;
  streams = take 16 (drop 6 w);
}

unfoldable pub desk_words : Desk → List ℕ
desk_words d = phase_word d.phase ∷ d.date ∷ d.clock ∷ d.texts ∷ d.banks ∷ d.n ∷ d.streams

-- ---- the banks: five words a record, code, flags, balance, sub-limit and what waits

-- 64 times five words
abbrev pub banks_length : ℕ
banks_length = 320

unfoldable pub banks_in : List ℕ → List Account
banks_in [] = []
banks_in (a ∷ []) = []
banks_in (a ∷ b ∷ []) = []
banks_in (a ∷ b ∷ c ∷ []) = []
banks_in (a ∷ b ∷ c ∷ d ∷ []) = []
banks_in (a ∷ b ∷ c ∷ d ∷ e ∷ w) = record { code = a; flags = b; balance = c; sublimit = d; waiting = e } ∷ banks_in w

unfoldable pub bank_words : List Account → List ℕ
bank_words [] = []
bank_words (a ∷ row) = a.code ∷ a.flags ∷ a.balance ∷ a.sublimit ∷ a.waiting ∷ bank_words row

-- ---- all that is lent

pub record EngineWords : Type 0 where
  pub desk : List ℕ
  pub banks : List ℕ
  pub batches : List ℕ
  pub references : List ℕ
  pub bins : List ℕ

abbrev pub engine_words : (desk banks batches references bins : List ℕ) → EngineWords
engine_words desk banks batches references bins = record { desk = desk; banks = banks; batches = batches; references = references; bins = bins }

-- the tables that the rules see
abbrev pub tables_by : EngineWords → Tables
tables_by e = tables_in (banks_in e.banks) e.batches e.references e.bins

-- with the buffer, the row of tries and the report: how much of each of the two was written
pub record Words : Type 0 where
  pub engine : EngineWords
  pub out : List ℕ
  pub tries : List ℕ
  pub report : List ℕ

abbrev pub lent_words : (desk banks batches references bins out tries report : List ℕ) → Words
lent_words desk banks batches references bins out tries report =
    record { engine = engine_words desk banks batches references bins; out = out; tries = tries; report = report }

abbrev pub lent_in : Words → Lent
lent_in x = lent_as (desk_in x.engine.desk) (tables_by x.engine) x.out x.tries

-- ---- what a call asks, in numbers

-- a number past the last is the closing book of a date that no day has
unfoldable pub action_by : (number first second third fourth : ℕ) → Action
action_by number first second third fourth =
    cond (eqb number 0) Opening
    (cond (eqb number 1) (Message first)
    (cond (eqb number 2) (SubLimit first second)
    (cond (eqb number 3) (Status first (record { high = second; low = third }) fourth)
    (cond (eqb number 4) Tick
    (cond (eqb number 5) Close
    (cond (eqb number 6) (ClosingBook first)
    (ClosingBook 0)))))))

-- 0 is the plain test, any other number the quick one
abbrev pub asks : (quick clock number first second third fourth : ℕ) (input : List ℕ) → Asked
asks quick clock number first second third fourth input =
    record { quick = not (eqb quick 0); clock = clock; action = action_by number first second third fourth; input = input }

-- ---- what a call leaves

pub record Returned : Type 0 where
  pub number : ℕ
  pub words : Words

abbrev pub refused_with : Refusal → Words → Returned
refused_with r x = record { number = number_of r; words = x }

-- what the rules leave, in words
abbrev pub returned : Words → Left → Returned
returned x y = record {
  number = answer_number y.answer;
  words = lent_words (desk_words y.lent.desk) (bank_words (row_in y.lent.tables)) y.lent.tables.batches y.lent.tables.references
      y.lent.tables.bins y.lent.out y.lent.tries (sets x.report 0 (y.written ∷ y.tried ∷ []));
}

-- a refusal that changes nothing but the report
abbrev pub unchanged : Refusal → Words → Returned
unchanged r x = record {
  number = number_of r;
  words = record { engine = x.engine; out = x.out; tries = x.tries; report = sets x.report 0 (0 ∷ 0 ∷ []) };
}

-- a desk whose phase is a phase, and 64 banks
pub record Shaped (desk banks : List ℕ) : Type 0 where
  pub desk_long : length desk ≡ 22
  pub phase_right : get_or desk 0 0 ≤ 2
  pub banks_long : length banks ≡ banks_length

abbrev pub InShape : Words → Type 0
InShape x = Shaped x.engine.desk x.engine.banks

pub record Shows (x : Words) (a : Asked) (y : Returned) : Type 0 where
  pub left : Left
  pub called : Called (lent_in x) a left
  pub is : y ≡ returned x left

-- what a call promises: 07 for a report of fewer than two words, then 06 for rows of another shape, with nothing changed; else what the rules leave
pub record CalledWords (x : Words) (a : Asked) (y : Returned) : Type 0 where
  pub short : length x.report < 2 → y ≡ refused_with ShortBuffer x
  pub broken : 2 ≤ length x.report → (InShape x → ⊥) → y ≡ refused_with BrokenTables x
  pub shows : 2 ≤ length x.report → InShape x → Shows x a y

-- what was left, as the rules see it: of the answer the words have the number alone
abbrev pub seen_with : Answer → Returned → Left
seen_with answer y = record { answer = answer; written = get_or y.words.report 0 0; tried = get_or y.words.report 1 0; lent = lent_in y.words }

pub record Seen (x : Words) (a : Asked) (y : Returned) : Type 0 where
  pub answer : Answer
  pub numbered : y.number ≡ answer_number answer
  pub called : Called (lent_in x) a (seen_with answer y)

-- ---- clearing

pub record LongWords (e : EngineWords) : Type 0 where
  pub desk_long : length e.desk ≡ 22
  pub banks_long : length e.banks ≡ banks_length
  pub batches_long : length e.batches ≡ table_length
  pub references_long : length e.references ≡ 6144
  pub bins_long : length e.bins ≡ 1536

pub record Started : Type 0 where
  pub number : ℕ
  pub words : EngineWords

unfoldable pub no_words : EngineWords
no_words = engine_words (replicate 22 0) (replicate banks_length 0) (replicate table_length 0) (replicate 6144 0) (replicate 1536 0)

unfoldable pub clear_words : Bool → EngineWords → Started
clear_words long e = cond long (record { number = 0; words = no_words }) (record { number = number_of BrokenTables; words = e })

-- any contents of the right lengths are accepted
pub record ClearedWords (x : EngineWords) (y : Started) : Type 0 where
  pub long : Bool
  pub says : Says (LongWords x) long
  pub is : y ≡ clear_words long x
