-- Marked examples (10) and (11): a reference of one date is refused on another, or free again.
use Rattle.std.specs.Prelude.{ℕ, Option, Some, None}
use mathlib.Core.Path.{◌≡◌, refl}
use mathlib.Core.Bool.{Bool, true, false}
use Rattle.dates.specs.Dates.{february, months, days_in, is_true, day_of, is_remembered}

-- whether a reference of one date is still remembered on the other
abbrev refused_on : Option ℕ → Option ℕ → Bool
refused_on (Some day) (Some today) = is_remembered day today
refused_on (Some day) None = false
refused_on None (Some today) = false
refused_on None None = false

pub example_10 : (refused_on (day_of 270203) (day_of 270217) ≡ true) × (refused_on (day_of 270203) (day_of 270218) ≡ false)
unfolding february months days_in is_true day_of is_remembered
example_10 = (refl, refl)

pub example_11 : (refused_on (day_of 280220) (day_of 280305) ≡ true) × (refused_on (day_of 280220) (day_of 280306) ≡ false)
unfolding february months days_in is_true day_of is_remembered
example_11 = (refl, refl)

-- the first and the last day, and a 29 February that is not there
pub first_and_last : (day_of 101 ≡ Some 0) × (day_of 991231 ≡ Some 36524) × (day_of 270229 ≡ None)
unfolding february months days_in is_true day_of
first_and_last = (refl, refl, refl)
