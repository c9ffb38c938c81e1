-- A letter that is changed in a row.
use Rattle.std.specs.Prelude.{ℕ, zero, suc, ◌+◌, cond, List, eqb, get_or, set}
use Rattle.model.specs.Changes.{with_esa}

-- the letters of a payment of bank k: a credit has none, a debit of the bank gets the letter
abbrev pub letters_with : (bank letter k l : ℕ) → ℕ
letters_with bank letter k l = cond (eqb l 0) 0 (cond (eqb k bank) (with_esa letter l) l)

-- n payments from a word on
unfoldable pub reletter_from : (bank letter : ℕ) → List ℕ → (at n : ℕ) → List ℕ
reletter_from b x row at zero = row
reletter_from b x row at (suc n) = reletter_from b x (set row (at + 2) (letters_with b x (get_or row at 0) (get_or row (at + 2) 0))) (at + 3) n
