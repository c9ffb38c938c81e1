-- Remembered entries by the slot of their code: from the first entry of a slot a chain leads on to the next, and no entry of the slot
-- lies between.
use Rattle.std.specs.Prelude.{◌≡◌, ℕ, ◌+◌, ◌*◌, ◌%◌, ◌^◌, ◌<◌, ◌≤◌, Bool, true, not, ◌&&◌, List, slice_index}
use Rattle.chars.specs.Words.{Says}
use Rattle.dates.specs.Dates.{is_remembered}
use Rattle.codes.specs.Codes.{no_code}
use Rattle.model.specs.State.{same_code}
use Rattle.model.specs.Rules.{remembered, Unlike}
use Rattle.tables_rules.specs.entry_rules.EntryRules.{entry_of, code_of, entries_from}

-- a prime below 2,048 spreads numbers that differ in their last digits
abbrev pub slot_of : (high low : ℕ) → ℕ
slot_of high low = (high + low) % 2 ^ 64 % 2039

module _ (t : List ℕ) (n today : ℕ) where
  abbrev pub kept_at : ℕ → Bool
  kept_at i = not (same_code (entry_of (slice_index t (i * 3 + 0)) (slice_index t (i * 3 + 1)) (slice_index t (i * 3 + 2))).code no_code) && is_remembered (slice_index t (i * 3 + 2)) today

  abbrev pub slot_at : ℕ → ℕ
  slot_at i = slot_of (slice_index t (i * 3 + 0)) (slice_index t (i * 3 + 1))

  -- k is the first remembered entry of a slot from entry a on; where there is none, k is not below n
  pub record First (slot a k : ℕ) : Type 0 where
    pub none_before : (j : ℕ) → a ≤ j → j < n → kept_at j ≡ true → slot_at j ≡ slot → k ≤ j
    pub here : k < n → (a ≤ k) × (kept_at k ≡ true) × (slot_at k ≡ slot)

  abbrev pub Nexts : (next : List ℕ) → ℕ → Type 0
  Nexts next i = (j : ℕ) → i ≤ j → j < n → kept_at j ≡ true → First (slot_at j) (j + 1) (slice_index next j)

  -- the entries from i on are chained
  pub record Chained (first next : List ℕ) (i : ℕ) : Type 0 where
    pub firsts : (slot : ℕ) → slot < 2039 → First slot i (slice_index first slot)
    pub nexts : Nexts next i

  -- entry i is unlike those behind it, and is then chained too
  pub record Entered (i : ℕ) (first next : List ℕ) (r : Bool) : Type 0 where
    pub says : Says (Unlike (code_of (slice_index t (i * 3 + 0)) (slice_index t (i * 3 + 1))) (remembered today (entries_from t n (i + 1)))) r
    pub chained : r ≡ true → Chained first next i
