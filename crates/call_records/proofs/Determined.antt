-- What a call on a row of records leaves can be worked out from its promise, and any two outcomes that the promise allows are equal.
use Rattle.std.specs.Prelude.{Err}
use mathlib.Core.Path.{◌≡◌, refl, sym, ap, ◌∙◌}
use Prim.Native.Nat.{ℕ}
use mathlib.Core.List.{List, [], ◌∷◌}
use lib.ListN.{length}
use Rattle.chars.specs.declared.Refusal.TheVariants.{BrokenTables}
use Rattle.tables.specs.declared.Desk.{Desk}
use Rattle.tables.specs.Rows.{Tables}
use Rattle.tables.specs.Lent.{Lent, Asked, Left, Called, call_lent, Wiped, Cleared, clear_lent}
use Rattle.tables.proofs.Determined as rules
use Rattle.call.specs.step.Stepping.{lent_as}
use Rattle.call_records.specs.declared.Account.{Account}
use Rattle.call_records.specs.Records.{codes_of, flags_of, balances_of, sublimits_of, waiting_of, tables_in, row_of, Outcome, seen_as, outcome_of, Beginning, wiped_as, beginning_of}
use Rattle.call_records.proofs.Refused.{short_call, short_start}

-- a row is the row of its columns
pub row_back : (row : List Account) → row_of (codes_of row) (flags_of row) (balances_of row) (sublimits_of row) (waiting_of row) ≡ row
unfolding row_of
row_back [] = refl
row_back (a ∷ row) = ap (λ (l : List Account). a ∷ l) (row_back row)

-- ---- a call

pub seen_back : (y : Outcome) → outcome_of (seen_as y) ≡ y
seen_back y = rw (row_back y.row)

-- answer, texts, tries and tables, from the promise alone
pub worked_out : (x : Lent) (a : Asked) (y : Outcome) (c : Called x a (seen_as y)) → y ≡ outcome_of (call_lent c.kept x a)
worked_out x a y c = sym (seen_back y) ∙ ap (λ (z : Left). outcome_of z) c.is

pub determined : (x : Lent) (a : Asked) (y z : Outcome) → Called x a (seen_as y) → Called x a (seen_as z) → y ≡ z
determined x a y z c d = sym (seen_back y) ∙ ap (λ (u : Left). outcome_of u) (rules.determined x a (seen_as y) (seen_as z) c d) ∙ seen_back z

-- a row of another length than 64: 06, and all that was lent is as it was
pub short_row : (d : Desk) (row : List Account) (batches references bins out tries : List ℕ) (a : Asked) (y : Outcome) → (length row ≡ 64 → ⊥)
    → Called (lent_as d (tables_in row batches references bins) out tries) a (seen_as y)
    → y ≡ record {
      told = record { answer = Err BrokenTables; written = 0; tried = 0; desk = d };
      row = row;
      batches = batches;
      references = references;
      bins = bins;
      out = out;
      tries = tries;
    }
short_row d row batches references bins out tries a y h c = determined (lent_as d (tables_in row batches references bins) out tries) a y _ c (short_call d row batches references bins out tries a _ h refl)

-- ---- a clearing

pub wiped_back : (y : Beginning) → beginning_of (wiped_as y) ≡ y
wiped_back y = rw (row_back y.row)

pub clearing_worked_out : (d : Desk) (t : Tables) (y : Beginning) (c : Cleared d t (wiped_as y)) → y ≡ beginning_of (clear_lent c.long d t)
clearing_worked_out d t y c = sym (wiped_back y) ∙ ap (λ (z : Wiped). beginning_of z) c.is

pub clearing_determined : (d : Desk) (t : Tables) (y z : Beginning) → Cleared d t (wiped_as y) → Cleared d t (wiped_as z) → y ≡ z
clearing_determined d t y z c e = sym (wiped_back y) ∙ ap (λ (u : Wiped). beginning_of u) (rules.cleared_determined d t (wiped_as y) (wiped_as z) c e) ∙ wiped_back z

pub clearing_short : (d : Desk) (row : List Account) (batches references bins : List ℕ) (y : Beginning) → (length row ≡ 64 → ⊥) → Cleared d (tables_in row batches references bins) (wiped_as y)
    → y ≡ record { start = record { answer = Err BrokenTables; desk = d }; row = row; batches = batches; references = references; bins = bins }
clearing_short d row batches references bins y h c = clearing_determined d (tables_in row batches references bins) y _ c (short_start d row batches references bins _ h refl)
