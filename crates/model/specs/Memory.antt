-- Remembered references and BINs.
use Rattle.std.specs.Prelude.{ℕ, Bool, false, ◌&&◌, ◌||◌, not, List, [], ◌∷◌, set}
use Rattle.codes.specs.declared.Code.{Code}
use Rattle.dates.specs.Dates.{is_remembered}
use Rattle.codes.specs.Codes.{no_code}
use Rattle.model.specs.State.{Entry, Found, seek, on_found, same_code}

-- "today or on one of the 14 days before"
abbrev pub holds : ℕ → Code → Entry → Bool
holds today code e = same_code e.code code && is_remembered e.day today

-- "Reference used .. today or on one of the 14 days before"; "BINs likewise"
unfoldable pub is_used : ℕ → Code → List Entry → Bool
is_used today code [] = false
is_used today code (e ∷ es) = holds today code e || is_used today code es

-- "a place is free again when its day is more than 14 days back"
abbrev pub is_vacant : ℕ → Entry → Bool
is_vacant today e = same_code e.code no_code || not (is_remembered e.day today)

unfoldable pub vacant : ℕ → List Entry → Found
vacant today es = seek (is_vacant today) es

-- "A new entry takes the lowest free place"
unfoldable pub note : ℕ → Code → List Entry → List Entry
note today code es = on_found (vacant today es) es (λ p. set es p (record { code = code; day = today }))
