-- A code that is looked for among remembered entries.
use Rattle.std.specs.Prelude.{ℕ, ◌≡◌, Bool, true, false, cond, List, Option, Some, None}
use Rattle.codes.specs.declared.Code.{Code}
use Rattle.model.specs.State.{Found, at, nowhere, Entry}
use Rattle.model.specs.Memory.{is_used, vacant}
use Rattle.call_plan.specs.declared.entries.Looked.{Looked}
use Rattle.call_plan.specs.declared.entries.Looked.TheVariants.{Used, Free, Full}

abbrev pub found_used : Looked → Bool
found_used Used = true
found_used (Free p) = false
found_used Full = false

abbrev pub found_free : Looked → Found
found_free Used = nowhere
found_free (Free p) = at p
found_free Full = nowhere

pub record Looks (today : ℕ) (code : Code) (es : List Entry) (r : Looked) : Type 0 where
  pub used : found_used r ≡ is_used today code es
  pub free : found_used r ≡ false → found_free r ≡ vacant today es

-- the place found before, or this one where none was and it is vacant
abbrev pub lowest_of : Option ℕ → (place : ℕ) → (vacant : Bool) → Option ℕ
lowest_of (Some p) place v = Some p
lowest_of None place v = cond v (Some place) None
