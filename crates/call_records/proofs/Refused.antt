-- A row of another length than 64 is refused, with nothing changed.
use Rattle.std.specs.Prelude.{Err}
use mathlib.Core.Path.{◌≡◌, sym, ◌∙◌}
use Prim.Native.Nat.{ℕ}
use mathlib.Core.Bool.{false}
use mathlib.Core.List.{List}
use lib.ListN.{length, length-map}
use Rattle.chars.specs.declared.Refusal.TheVariants.{BrokenTables}
use Rattle.tables.specs.declared.Desk.{Desk}
use Rattle.tables.specs.Lent.{Asked, Called, Cleared, call_lent, clear_lent}
use Rattle.tables.proofs.Kept.{right_long}
use Rattle.call.specs.declared.step.Told.{Told}
use Rattle.call.specs.step.Stepping.{lent_as, left_as}
use Rattle.tables_clear.specs.declared.Start.{Start}
use Rattle.call_records.specs.declared.Account.{Account}
use Rattle.call_records.specs.Records.{tables_in}

-- ---- the promise holds of such a refusal: "lengths 64" is one of the table rules

pub short_call : (d : Desk) (row : List Account) (batches references bins out tries : List ℕ) (a : Asked) (r : Told) → (length row ≡ 64 → ⊥)
    → r ≡ record { answer = Err BrokenTables; written = 0; tried = 0; desk = d }
    → Called (lent_as d (tables_in row batches references bins) out tries) a (left_as r.answer r.written r.tried r.desk (tables_in row batches references bins) out tries)
unfolding call_lent
short_call d row batches references bins out tries a r h e = record {
  kept = false;
  says = λ right. h (sym (length-map row (λ (b : Account). b.code)) ∙ (right_long d (tables_in row batches references bins) right).codes);
  is = rw e;
}

pub short_start : (d : Desk) (row : List Account) (batches references bins : List ℕ) (r : Start) → (length row ≡ 64 → ⊥) → r ≡ record { answer = Err BrokenTables; desk = d }
    → Cleared d (tables_in row batches references bins) (record { answer = r.answer; desk = r.desk; tables = tables_in row batches references bins })
unfolding clear_lent
short_start d row batches references bins r h e = record {
  long = false;
  says = λ long. h (sym (length-map row (λ (b : Account). b.code)) ∙ long.codes);
  is = rw e;
}
