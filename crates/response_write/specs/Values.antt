-- The responses that a text can hold: those that its reader would take.
use Rattle.chars.specs.declared.Refusal.{Refusal}
use Rattle.std.specs.Prelude.{ℕ, ◌≡◌, Bool, true, ◌&&◌, cond, List, eqb, ltb, Result, Err}
use Rattle.chars.specs.declared.Refusal.TheVariants.{Malformed}
use Rattle.clock.specs.Clock.{seconds_of_day}
use Rattle.dates.specs.Dates.{days_of_century}
use Rattle.text_names.specs.rules.Names.{is_reference, is_bin, bin_stream}
use Rattle.response_write.specs.Texts.{written, after}
use Rattle.response_write.specs.declared.Outcome.{Outcome}
use Rattle.response_write.specs.declared.Outcome.TheVariants.{Settled, Rejected}
use Rattle.response_write.specs.declared.Answer.{Answer}
use Rattle.response_write.specs.declared.Answer.TheVariants.{Recalled, Kept}
use Rattle.response_write.specs.declared.Settlement.{Settlement}
use Rattle.response_write.specs.declared.Recall.{Recall}

-- "seven digits"
abbrev pub is_number : ℕ → Bool
is_number n = ltb n 10000000

-- "two digits"
abbrev pub is_two : ℕ → Bool
is_two n = ltb n 100

-- "13E (date, HHMMSS)", of a day of 2000 to 2099, or "432 (two digits)"
unfoldable pub is_outcome : Outcome → Bool
is_outcome (Settled day second) = ltb day days_of_century && ltb second seconds_of_day
is_outcome (Rejected number) = is_two number

-- "and 432 after 1"
unfoldable pub is_answer : Answer → Bool
is_answer Recalled = true
is_answer (Kept number) = is_two number

-- the BIN begins with "the 4 of the stream"
unfoldable pub is_settlement : Settlement → Bool
is_settlement r =
    is_number r.number
    && (is_reference r.reference
    && (is_bin r.bin
    && (eqb r.stream (bin_stream r.bin)
    && is_outcome r.outcome)))

unfoldable pub is_recall : Recall → Bool
is_recall r = is_number r.number && (is_reference r.reference && is_answer r.answer)

-- what no text can hold is 87, and nothing is written
abbrev pub written_if : Bool → List ℕ → ℕ → List ℕ → Result ℕ Refusal
written_if holds out at text = cond holds (written out at text) (Err Malformed)

abbrev pub after_if : Bool → List ℕ → ℕ → List ℕ → List ℕ
after_if holds out at text = cond holds (after out at text) out

-- what a writer answers and leaves of a text
abbrev pub Wrote : Bool → List ℕ → ℕ → List ℕ → Result ℕ Refusal → List ℕ → Type 0
Wrote holds out at text w o = (w ≡ written_if holds out at text) × (o ≡ after_if holds out at text)
