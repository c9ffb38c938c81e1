-- The table rules of references and BINs, over their rows of three words.
use Rattle.std.specs.Prelude.{◌≡◌, ℕ, ◌-◌, ◌*◌, Bool, cond, List, map, length, drop}
use Rattle.book_read.specs.Range.{Each}
use Rattle.codes.specs.declared.Code.{Code}
use Rattle.model.specs.State.{Entry}
use Rattle.model.specs.Rules.{is_reference, is_bin, RightEntry, remembered, AllUnlike}
use Rattle.tables.specs.Rows.{rows, entry_in, entries_in}

-- an entry by its words
abbrev pub entry_of : (high low day : ℕ) → Entry
entry_of high low day = record { code = record { high = high; low = low }; day = day }

abbrev pub code_of : (high low : ℕ) → Code
code_of high low = record { high = high; low = low }

-- the entries from i on
abbrev pub entries_from : List ℕ → (n i : ℕ) → List Entry
entries_from t n i = map entry_in (rows 3 (n - i) (drop (i * 3) t))

-- the code of a reference, or of a BIN
abbrev pub code_right : Bool → Code → Bool
code_right references c = cond references (is_reference c) (is_bin c)

-- references and BINs, each table by itself
pub record KnownRules (date : ℕ) (references bins : List ℕ) : Type 0 where
  pub references_long : length references ≡ 6144
  pub bins_long : length bins ≡ 1536
  pub references_right : Each (RightEntry is_reference date) (entries_in 2048 references)
  pub bins_right : Each (RightEntry is_bin date) (entries_in 512 bins)
  -- "no reference or BIN remembered twice"
  pub references_once : AllUnlike (remembered date (entries_in 2048 references))
  pub bins_once : AllUnlike (remembered date (entries_in 512 bins))
