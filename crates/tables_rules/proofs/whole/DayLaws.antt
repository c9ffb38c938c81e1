-- Laws of the tests of the desk and of a day's tables.
use Rattle.std.proofs.Common.{◌≡◌, ℕ, ◌-◌, ◌*◌, ◌≤◌, Bool, true, false, not, List, length, take, drop, refl, arith, length-drop, take_all}
use Rattle.chars.specs.Words.{Says}
use Rattle.book_read.specs.Range.{Each}
use Rattle.tables.specs.declared.Desk.{Desk}
use Rattle.tables.specs.House.{AllZero}
use Rattle.tables.specs.Rows.{Tables, batch_rows}
use Rattle.tables.specs.Moment.{lent_with}
use Rattle.tables.proofs.TestLaws.{says_no, says_yes, says_map}
use Rattle.tables_rules.specs.batch_rules.BatchRules.{BatchRules}
use Rattle.tables_rules.specs.entry_rules.EntryRules.{KnownRules}
use Rattle.tables_rules.specs.whole.TableRules.{DeskRules, CrossRules, DayTables, Counts}
use Rattle.tables_rules.proofs.whole.CrossLaws.{rows_count}

pub past_all : (row : List ℕ) (n : ℕ) → length row ≡ 16 → (r : Bool) → Says (AllZero (take (16 - 2 * n) (drop (2 * n) row))) r → Says (AllZero (drop (2 * n) row)) r
past_all row n l r s = rw (take_all (16 - 2 * n) (drop (2 * n) row) (omega (arith, length-drop (2 * n) row))) at s

module _ (d : Desk) (codes flags balances sublimits batches references bins : List ℕ) where
  abbrev t : Tables
  t = lent_with codes flags balances sublimits batches references bins

  pub day_1 : (a : Bool) → Says (DeskRules d codes flags balances sublimits) a → not a ≡ true → DayTables d t → ⊥
  day_1 a s e x = says_no a s e x.desk

  pub day_2 : (c : Bool) → Says (BatchRules d.banks batches) c → not c ≡ true → DayTables d t → ⊥
  day_2 c u e x = says_no c u e x.batches

  pub day_3 : (k : Bool) → Says (KnownRules d.date references bins) k → not k ≡ true → DayTables d t → ⊥
  day_3 k v e x = says_no k v e x.known

  pub day_4 : (a : Bool) → Says (DeskRules d codes flags balances sublimits) a → not a ≡ false
      → (c : Bool) → Says (BatchRules d.banks batches) c → not c ≡ false
      → (k : Bool) → Says (KnownRules d.date references bins) k → not k ≡ false
      → (r : Bool) → Says (CrossRules d.date d.texts batches references bins) r → Says (DayTables d t) r
  day_4 a s e c u f k v g r w = says_map r (λ y. record { desk = says_yes a s e; batches = says_yes c u f; known = says_yes k v g; cross = y; sheet = refl }) (λ x. x.cross) w

  pub day_banks : (a : Bool) → Says (DeskRules d codes flags balances sublimits) a → not a ≡ false → d.banks ≤ 64
  day_banks a s e = (says_yes a s e).house.few_banks

pub day_long : (banks : ℕ) (batches : List ℕ) (c : Bool) → Says (BatchRules banks batches) c → not c ≡ false → length batches ≡ 11168
day_long banks batches c u e = (says_yes c u e).long

pub day_counts : (banks : ℕ) (batches : List ℕ) (c : Bool) → Says (BatchRules banks batches) c → not c ≡ false → Each Counts (batch_rows batches)
day_counts banks batches c u e = rows_count banks (batch_rows batches) (says_yes c u e).rows

pub day_known : (date : ℕ) (references bins : List ℕ) (k : Bool) → Says (KnownRules date references bins) k → not k ≡ false → (length references ≡ 6144) × (length bins ≡ 1536)
day_known date references bins k v e = let y = says_yes k v e in (y.references_long, y.bins_long)
