-- A row of records and its columns, record by record.
use mathlib.Core.Path.{◌≡◌, refl, sym, ap, ◌∙◌}
use Prim.Native.Nat.{ℕ, suc, ◌<◌, ◌≤◌, ◌+◌}
use native.Mathlib.Omega.{arith}
use native.Mathlib.Numerals.{add-one}
use mathlib.Core.List.{List, map}
use lib.ListN.{length, get_or, set, take, length-map, get_or-map}
use lib.Seq.{take-suc, take-suc-set, take_all, get_or-set_same, set-set}
use Rattle.tables.proofs.MemoryLaws.{map_set}
use Rattle.tables.specs.Moment.{lent_on}
use Rattle.call_records.specs.declared.Account.{Account}
use Rattle.call_records.specs.Records.{tables_in, Columns, Long}

abbrev pub none : Account
none = record { code = 0; flags = 0; balance = 0; sublimit = 0; waiting = 0 }

-- ---- one more of a column

pub column : (f : Account → ℕ) (row : List Account) (zs : List ℕ) (i : ℕ) → i < length row → i < length zs → take i zs ≡ take i (map f row)
    → take (suc i) (set zs i (f (get_or row i none))) ≡ take (suc i) (map f row)
column f row zs i h k e =
    let l : i < length (map f row) = rw length-map h in
    take-suc-set zs i (f (get_or row i none)) k ∙ (rw (e, ← get_or-map f row i none)) ∙ sym (take-suc (map f row) i (f none) l)

-- ---- one more record

pub field_stored : (f : Account → ℕ) (row : List Account) (ws : List ℕ) (i : ℕ) (a : Account) → i < length row → i < length ws → f a ≡ get_or ws i 0 → take i (map f row) ≡ take i ws
    → take (suc i) (map f (set row i a)) ≡ take (suc i) ws
field_stored f row ws i a h k v e =
    let l : i < length (map f row) = rw length-map h in
    ap (take (suc i)) (map_set f row i a) ∙ take-suc-set (map f row) i (f a) l ∙ (rw (e, v)) ∙ sym (take-suc ws i 0 k)

-- all of them
pub whole_row : (i : ℕ) (xs ys : List ℕ) → i ≡ 64 → length xs ≡ 64 → length ys ≡ 64 → take i xs ≡ take i ys → xs ≡ ys
whole_row i xs ys h l m e = sym (take_all i xs (omega (arith, h, l))) ∙ e ∙ take_all i ys (omega (arith, h, m))

-- ---- tables of columns are tables of the row

pub tables_in_lem : (row : List Account) (codes flags balances sublimits sheet batches references bins : List ℕ) → Columns row codes flags balances sublimits sheet
    → lent_on codes flags balances sublimits batches references bins sheet ≡ tables_in row batches references bins
tables_in_lem row codes flags balances sublimits sheet batches references bins c = rw (c.codes_are, c.flags_are, c.balances_are, c.sublimits_are, c.sheet_are)

-- ---- a record is stored field by field

abbrev put : (Account → Account) → ℕ → List Account → List Account
put g i row = set row i (g (get_or row i none))

put_again : (g : Account → Account) (row : List Account) (i : ℕ) (a : Account) → i < length row → put g i (set row i a) ≡ set row i (g a)
put_again g row i a h = rw (get_or-set_same row i a none h) (set-set row i a (g a))

abbrev code_put : ℕ → Account → Account
code_put v a = record { code = v; flags = a.flags; balance = a.balance; sublimit = a.sublimit; waiting = a.waiting }

abbrev flags_put : ℕ → Account → Account
flags_put v a = record { code = a.code; flags = v; balance = a.balance; sublimit = a.sublimit; waiting = a.waiting }

abbrev balance_put : ℕ → Account → Account
balance_put v a = record { code = a.code; flags = a.flags; balance = v; sublimit = a.sublimit; waiting = a.waiting }

abbrev sublimit_put : ℕ → Account → Account
sublimit_put v a = record { code = a.code; flags = a.flags; balance = a.balance; sublimit = v; waiting = a.waiting }

abbrev waiting_put : ℕ → Account → Account
waiting_put v a = record { code = a.code; flags = a.flags; balance = a.balance; sublimit = a.sublimit; waiting = v }

abbrev all_put : (i code flags balance sublimit waiting : ℕ) → List Account → List Account
all_put i code flags balance sublimit waiting row =
    put (waiting_put waiting) i (put (sublimit_put sublimit) i (put (balance_put balance) i (put (flags_put flags) i (put (code_put code) i row))))

all_stored : (i code flags balance sublimit waiting : ℕ) (row : List Account) → i < length row
    → all_put i code flags balance sublimit waiting row ≡ set row i (record { code = code; flags = flags; balance = balance; sublimit = sublimit; waiting = waiting })
all_stored i code flags balance sublimit waiting row h =
    let a : Account = get_or row i none in
    ap (λ (r : List Account). put (waiting_put waiting) i (put (sublimit_put sublimit) i (put (balance_put balance) i r))) (put_again (flags_put flags) row i (code_put code a) h)
    ∙ ap (λ (r : List Account). put (waiting_put waiting) i (put (sublimit_put sublimit) i r)) (put_again (balance_put balance) row i (flags_put flags (code_put code a)) h)
    ∙ ap (λ (r : List Account). put (waiting_put waiting) i r) (put_again (sublimit_put sublimit) row i (balance_put balance (flags_put flags (code_put code a))) h)
    ∙ put_again (waiting_put waiting) row i (sublimit_put sublimit (balance_put balance (flags_put flags (code_put code a)))) h

-- the records up to a place hold what the columns hold
pub record Saved (row : List Account) (codes flags balances sublimits sheet : List ℕ) (i : ℕ) : Type 0 where
  pub few : i ≤ 64
  pub codes_are : take i (map (λ (a : Account). a.code) row) ≡ take i codes
  pub flags_are : take i (map (λ (a : Account). a.flags) row) ≡ take i flags
  pub balances_are : take i (map (λ (a : Account). a.balance) row) ≡ take i balances
  pub sublimits_are : take i (map (λ (a : Account). a.sublimit) row) ≡ take i sublimits
  pub sheet_are : take i (map (λ (a : Account). a.waiting) row) ≡ take i sheet

module _ (row : List Account) (codes flags balances sublimits sheet : List ℕ) (long : Long row codes flags balances sublimits sheet) (i : ℕ) (h : i < 64) where
  pub saved_on : Saved row codes flags balances sublimits sheet i
      → Saved (all_put i (get_or codes i 0) (get_or flags i 0) (get_or balances i 0) (get_or sublimits i 0) (get_or sheet i 0) row) codes flags balances sublimits sheet (i + 1)
  saved_on s =
      let x : Account = record { code = get_or codes i 0; flags = get_or flags i 0; balance = get_or balances i 0; sublimit = get_or sublimits i 0; waiting = get_or sheet i 0 } in
      let k : i < length row = omega (arith, long.row_long) in
      rw (all_stored i (get_or codes i 0) (get_or flags i 0) (get_or balances i 0) (get_or sublimits i 0) (get_or sheet i 0) row k, add-one) (record {
        few = omega arith;
        codes_are = field_stored (λ (a : Account). a.code) row codes i x k (omega (arith, long.codes_long)) refl s.codes_are;
        flags_are = field_stored (λ (a : Account). a.flags) row flags i x k (omega (arith, long.flags_long)) refl s.flags_are;
        balances_are = field_stored (λ (a : Account). a.balance) row balances i x k (omega (arith, long.balances_long)) refl s.balances_are;
        sublimits_are = field_stored (λ (a : Account). a.sublimit) row sublimits i x k (omega (arith, long.sublimits_long)) refl s.sublimits_are;
        sheet_are = field_stored (λ (a : Account). a.waiting) row sheet i x k (omega (arith, long.sheet_long)) refl s.sheet_are;
      })
