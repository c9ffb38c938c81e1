-- "Each engine call returns 0 or its own action's number."
use Rattle.chars.specs.declared.Refusal.{Refusal}
use Rattle.std.specs.Prelude.{ℕ, Result, Ok, Err}
use Rattle.chars.specs.Refusals.{number_of}

-- whether a call was carried out, or why not
abbrev pub Answer : Type 0
Answer = Result (Unit {0}) Refusal

abbrev pub answer_number : Answer → ℕ
answer_number (Ok tt) = 0
answer_number (Err r) = number_of r
