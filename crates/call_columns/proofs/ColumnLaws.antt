-- A call on a row of records is a call on its columns.
use mathlib.Core.Path.{◌≡◌, sym, subst}
use Prim.Native.Nat.{ℕ}
use mathlib.Core.List.{List}
use Rattle.tables.specs.declared.Desk.{Desk}
use Rattle.tables.specs.Rows.{Tables}
use Rattle.tables.specs.Moment.{lent_on}
use Rattle.tables.specs.Lent.{Asked, Called, Cleared}
use Rattle.call.specs.declared.step.Told.{Told}
use Rattle.call.specs.step.Stepping.{lent_as, left_as}
use Rattle.tables_clear.specs.declared.Start.{Start}
use Rattle.call_records.specs.declared.Account.{Account}
use Rattle.call_columns.specs.declared.RowTold.{RowTold}
use Rattle.call_columns.specs.declared.RowStart.{RowStart}
use Rattle.call_records.specs.Records.{tables_in, Columns}
use Rattle.call_records.proofs.Rows.{tables_in_lem}

module _ (d : Desk) (row : List Account)
    (codes flags balances sublimits t rs bs sheet codes' flags' balances' sublimits' t' rs' bs' sheet' : List ℕ) where
  abbrev before : Tables
  before = lent_on codes flags balances sublimits t rs bs sheet

  abbrev after : Tables
  after = lent_on codes' flags' balances' sublimits' t' rs' bs' sheet'

  pub call_columns : (out r out' r' : List ℕ) (a : Asked) (left : RowTold) → Columns row codes flags balances sublimits sheet
      → Called (lent_as d (tables_in row t rs bs) out r) a
      (left_as left.told.answer left.told.written left.told.tried left.told.desk (tables_in left.row t' rs' bs') out' r')
      → Columns left.row codes' flags' balances' sublimits' sheet'
      → Called (lent_as d before out r) a (left_as left.told.answer left.told.written left.told.tried left.told.desk after out' r')
  call_columns out r out' r' a left x c y =
      let y₀ = left.told in
      subst (λ (z : Tables). Called (lent_as d z out r) a (left_as y₀.answer y₀.written y₀.tried y₀.desk after out' r'))
      (sym (tables_in_lem row codes flags balances sublimits sheet t rs bs x))
      (subst (λ (z : Tables). Called (lent_as d (tables_in row t rs bs) out r) a (left_as y₀.answer y₀.written y₀.tried y₀.desk z out' r'))
      (sym (tables_in_lem left.row codes' flags' balances' sublimits' sheet' t' rs' bs' y)) c)

  pub clear_columns : (left : RowStart) → Columns row codes flags balances sublimits sheet
      → Cleared d (tables_in row t rs bs) (record { answer = left.start.answer; desk = left.start.desk; tables = tables_in left.row t' rs' bs' })
      → Columns left.row codes' flags' balances' sublimits' sheet'
      → Cleared d before (record { answer = left.start.answer; desk = left.start.desk; tables = after })
  clear_columns left x c y =
      subst (λ (z : Tables). Cleared d z (record { answer = left.start.answer; desk = left.start.desk; tables = after }))
      (sym (tables_in_lem row codes flags balances sublimits sheet t rs bs x))
      (subst (λ (z : Tables). Cleared d (tables_in row t rs bs) (record { answer = left.start.answer; desk = left.start.desk; tables = z }))
      (sym (tables_in_lem left.row codes' flags' balances' sublimits' sheet' t' rs' bs' y)) c)
