-- A place that the code looked for, as the model says it.
use Rattle.std.specs.Prelude.{ℕ, Option, Some, None}
use Rattle.model.specs.State.{Found, at, nowhere}

abbrev pub found_by : Option ℕ → Found
found_by (Some p) = at p
found_by None = nowhere
