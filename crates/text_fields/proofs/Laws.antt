-- A field that the text does not have.
use mathlib.Core.Path.{◌≡◌}
use Rattle.text_values.specs.Values.{no_part}
use Rattle.text_values.specs.declared.Part.{Part}
use Rattle.text_fields.specs.Fields.{nothing}

pub nothing_is : {p : Part} → p ≡ no_part → record { part = p; number = 0 } ≡ nothing
nothing_is e = simp e
