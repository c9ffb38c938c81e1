-- Laws of the test of a fresh start, of a closed day's, and of the whole.
use Rattle.std.proofs.Common.{◌≡◌, ℕ, Bool, List, sym, subst}
use Rattle.chars.specs.Words.{Says}
use Rattle.model.specs.declared.Phase.{Phase}
use Rattle.model.specs.declared.Phase.TheVariants.{Fresh, Open, Closed}
use Rattle.tables.specs.declared.Desk.{Desk}
use Rattle.tables.specs.Rows.{Tables}
use Rattle.tables.specs.Lent.{Right}
use Rattle.tables.specs.Moment.{lent_with}
use Rattle.tables.proofs.TestLaws.{says_map}
use Rattle.tables_rules.specs.whole.TableRules.{NoTables, DayTables, ClosedTables, TablesIn}
use Rattle.tables_rules.proofs.whole.Parts.{tables_exact}

module _ (d : Desk) (codes flags balances sublimits batches references bins : List ℕ) where
  abbrev t : Tables
  t = lent_with codes flags balances sublimits batches references bins

  in_phase : (p : Phase) → d.phase ≡ p → (r : Bool) → Says (TablesIn p d t) r → Says (Right d t) r
  in_phase p e r s =
      says_map r (tables_exact d t).to (tables_exact d t).back (subst (λ (q : Phase). Says (TablesIn q d t) r) (sym e) s)

  pub whole_fresh : d.phase ≡ Fresh → (r : Bool) → Says (NoTables d (lent_with codes flags balances sublimits batches references bins)) r → Says (Right d (lent_with codes flags balances sublimits batches references bins)) r
  whole_fresh e r s = in_phase Fresh e r s

  pub whole_open : d.phase ≡ Open → (r : Bool) → Says (DayTables d (lent_with codes flags balances sublimits batches references bins)) r → Says (Right d (lent_with codes flags balances sublimits batches references bins)) r
  whole_open e r s = in_phase Open e r s

  pub whole_closed : d.phase ≡ Closed → (r : Bool) → Says (ClosedTables d (lent_with codes flags balances sublimits batches references bins)) r
      → Says (Right d (lent_with codes flags balances sublimits batches references bins)) r
  whole_closed e r s = in_phase Closed e r s
