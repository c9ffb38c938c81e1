-- Laws of the test of a sheet, and of the tables with it.
use Prim.Native.Nat.{ℕ}
use mathlib.Core.Path.{◌≡◌, sym, subst, ◌∙◌}
use mathlib.Core.Bool.{Bool, true, false, not}
use mathlib.Core.List.{List}
use lib.Dec.{eqb}
use lib.Pointwise.{pointwise}
use Rattle.std.specs.Cmp.Lexicographic.{same_text, other_text}
use Rattle.chars.specs.Words.{Says}
use Rattle.model.specs.State.{Batches}
use Rattle.tables.specs.declared.Desk.{Desk}
use Rattle.tables.specs.Rows.{Tables, batches_in}
use Rattle.tables.specs.Words.{sheet_words}
use Rattle.tables.specs.Lent.{Right}
use Rattle.tables.specs.Moment.{lent_on, lent_with}
use Rattle.tables.proofs.TestLaws.{says_no, says_yes, says_map}
use Rattle.tables_rules.proofs.whole.Parts.{right_batches, right_few}
pub use Rattle.tables_rules.proofs.whole.Parts.{right_sheet}
use Rattle.tables_sheet.specs.Sheet.{Ruled}

-- right tables hold what the sheet is worked out from
pub right_ruled : (d : Desk) (t : Tables) → Right d t → Ruled t.batches
right_ruled d t r = record { banks = d.banks; few = right_few d t r; rules = right_batches d t r }

-- ---- the sheet of the batches

pub right_same : (b : Batches) (s own mine : List ℕ) → own ≡ sheet_words b → mine ≡ own → (r : Bool) → r ≡ pointwise eqb s mine → Says (s ≡ sheet_words b) r
right_same b s own mine e f true g = same_text s mine g ∙ f ∙ e
right_same b s own mine e f false g = λ h. other_text s mine g (h ∙ sym (f ∙ e))

-- ---- the tables

module _ (d : Desk) (codes flags balances sublimits batches references bins : List ℕ) where
  abbrev with : List ℕ → Tables
  with s = lent_on codes flags balances sublimits batches references bins s

  own : (s : List ℕ) → s ≡ sheet_words (batches_in batches) → Right d (with s) → Right d (lent_with codes flags balances sublimits batches references bins)
  own s e r = subst (λ (x : List ℕ). Right d (with x)) e r

  module _ (a : Bool) (x : Says (Right d (lent_with codes flags balances sublimits batches references bins)) a) where
    pub tables_broken : not a ≡ true → (s : List ℕ) → Right d (lent_on codes flags balances sublimits batches references bins s) → ⊥
    tables_broken e s r = says_no a x e (own s (right_sheet d (with s) r) r)

    pub tables_ruled : not a ≡ false → Ruled batches
    tables_ruled e = right_ruled d (lent_with codes flags balances sublimits batches references bins) (says_yes a x e)

    pub tables_sheet : not a ≡ false → (s : List ℕ) (r : Bool) → Says (s ≡ sheet_words (batches_in batches)) r → Says (Right d (lent_on codes flags balances sublimits batches references bins s)) r
    tables_sheet e s r y =
        says_map r (λ q. subst (λ (l : List ℕ). Right d (with l)) (sym q) (says_yes a x e)) (λ q. right_sheet d (with s) q) y
