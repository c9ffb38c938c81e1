-- "The banks' accounts are lent as a row of records": the columns that the rules speak of are its fields.
use Rattle.settle.specs.declared.Bank.{Bank}
use Rattle.chars.specs.declared.Refusal.{Refusal}
use Rattle.std.specs.Prelude.{ℕ, ◌≡◌, ◌&&◌, cond, List, [], ◌∷◌, map, leb, length, get_or, drop, Result, Ok, Err}
use Rattle.chars.specs.declared.Refusal.TheVariants.{OutOfRange}
use Rattle.settle.specs.Types.{bank_or}
use Rattle.tables.specs.Rows.{Tables}
use Rattle.tables.specs.Moment.{lent_on}
use Rattle.tables.specs.Lent.{Left, Wiped}
use Rattle.call.specs.declared.step.Told.{Told}
use Rattle.call.specs.step.Stepping.{left_as}
use Rattle.tables_clear.specs.declared.Start.{Start}
use Rattle.call_records.specs.declared.Account.{Account}

-- ---- one account: 14 where a value is out of range

abbrev pub held_by : (code flags : ℕ) → Result Bank Refusal → Result Account Refusal
held_by code flags (Ok bank) = Ok (record { code = code; flags = flags; balance = bank.balance; sublimit = bank.sublimit; waiting = 0 })
held_by code flags (Err refusal) = Err refusal

-- a code of four characters, a suspension and eight stream bits
abbrev pub account_or : (code flags balance sublimit : ℕ) → Result Account Refusal
account_or code flags balance sublimit = cond (leb code 4294967295 && leb flags 511) (held_by code flags (bank_or balance sublimit)) (Err OutOfRange)

-- ---- the columns of a row

abbrev pub codes_of : List Account → List ℕ
codes_of row = map (λ (a : Account). a.code) row

abbrev pub flags_of : List Account → List ℕ
flags_of row = map (λ (a : Account). a.flags) row

abbrev pub balances_of : List Account → List ℕ
balances_of row = map (λ (a : Account). a.balance) row

abbrev pub sublimits_of : List Account → List ℕ
sublimits_of row = map (λ (a : Account). a.sublimit) row

abbrev pub waiting_of : List Account → List ℕ
waiting_of row = map (λ (a : Account). a.waiting) row

-- the lent tables, their accounts in a row of records
abbrev pub tables_in : List Account → (batches references bins : List ℕ) → Tables
tables_in row batches references bins =
    lent_on (codes_of row) (flags_of row) (balances_of row) (sublimits_of row) batches references bins (waiting_of row)

-- five columns are the fields of a row
pub record Columns (row : List Account) (codes flags balances sublimits sheet : List ℕ) : Type 0 where
  pub codes_are : codes ≡ codes_of row
  pub flags_are : flags ≡ flags_of row
  pub balances_are : balances ≡ balances_of row
  pub sublimits_are : sublimits ≡ sublimits_of row
  pub sheet_are : sheet ≡ waiting_of row

-- "lengths 64"
pub record Long (row : List Account) (codes flags balances sublimits sheet : List ℕ) : Type 0 where
  pub row_long : length row ≡ 64
  pub codes_long : length codes ≡ 64
  pub flags_long : length flags ≡ 64
  pub balances_long : length balances ≡ 64
  pub sublimits_long : length sublimits ≡ 64
  pub sheet_long : length sheet ≡ 64

-- ---- and the row of five columns

unfoldable pub row_of : (codes flags balances sublimits sheet : List ℕ) → List Account
row_of [] flags balances sublimits sheet = []
row_of (c ∷ codes) flags balances sublimits sheet =
    record { code = c; flags = get_or flags 0 0; balance = get_or balances 0 0; sublimit = get_or sublimits 0 0; waiting = get_or sheet 0 0 }
    ∷ row_of codes (drop 1 flags) (drop 1 balances) (drop 1 sublimits) (drop 1 sheet)

abbrev pub row_in : Tables → List Account
row_in t = row_of t.codes t.flags t.balances t.sublimits t.sheet

-- ---- what a call leaves, in its own shape, and as the rules see it

pub record Outcome : Type 0 where
  pub told : Told
  pub row : List Account
  pub batches : List ℕ
  pub references : List ℕ
  pub bins : List ℕ
  pub out : List ℕ
  pub tries : List ℕ

abbrev pub seen_as : Outcome → Left
seen_as y =
    left_as y.told.answer y.told.written y.told.tried y.told.desk (tables_in y.row y.batches y.references y.bins) y.out
    y.tries

abbrev pub outcome_of : Left → Outcome
outcome_of y = record {
  told = record { answer = y.answer; written = y.written; tried = y.tried; desk = y.lent.desk };
  row = row_in y.lent.tables;
  batches = y.lent.tables.batches;
  references = y.lent.tables.references;
  bins = y.lent.tables.bins;
  out = y.lent.out;
  tries = y.lent.tries;
}

-- of a clearing
pub record Beginning : Type 0 where
  pub start : Start
  pub row : List Account
  pub batches : List ℕ
  pub references : List ℕ
  pub bins : List ℕ

abbrev pub wiped_as : Beginning → Wiped
wiped_as y = record { answer = y.start.answer; desk = y.start.desk; tables = tables_in y.row y.batches y.references y.bins }

abbrev pub beginning_of : Wiped → Beginning
beginning_of y = record {
  start = record { answer = y.answer; desk = y.desk };
  row = row_in y.tables;
  batches = y.tables.batches;
  references = y.tables.references;
  bins = y.tables.bins;
}
