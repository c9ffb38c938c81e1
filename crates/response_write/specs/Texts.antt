-- The texts of responses, line by line as document 01 has them.
use Rattle.chars.specs.declared.Refusal.{Refusal}
use Rattle.std.specs.Prelude.{ℕ, ◌+◌, Bool, cond, List, [], ◌++◌, leb, length, Result, Ok, Err}
use Rattle.std.proofs.lemmas.List.Edits.{sets}
use Rattle.chars.specs.Words.{bytes, line}
use Rattle.chars.specs.declared.Refusal.TheVariants.{ShortBuffer}
use Rattle.codes.specs.Codes.{short_text, long_text}
use Rattle.codes.specs.declared.Code.{Code}
use Rattle.dates.specs.Dates.{date_of}
use Rattle.clock.specs.Clock.{hhmmss_of}
use Rattle.text_put.specs.Digits.{digits_of}
use Rattle.response_write.specs.declared.Outcome.{Outcome}
use Rattle.response_write.specs.declared.Outcome.TheVariants.{Settled, Rejected}
use Rattle.response_write.specs.declared.Answer.{Answer}
use Rattle.response_write.specs.declared.Answer.TheVariants.{Recalled, Kept}
use Rattle.response_write.specs.declared.Settlement.{Settlement}
use Rattle.response_write.specs.declared.Recall.{Recall}

-- "20 (`B` and seven digits ..), 12, 77E, 21 (the request's reference)"
unfoldable pub head_text : ℕ → ℕ → Code → List ℕ
head_text number sub_type reference =
    line (bytes ":20:B") (digits_of 7 number)
    ++ (line (bytes ":12:") (digits_of 3 sub_type)
    ++ (line (bytes ":77E:") []
    ++ line (bytes ":21:") (long_text reference)))

-- "22A, 119"
unfoldable pub batch_text : ℕ → Code → List ℕ
batch_text stream bin = line (bytes ":22A:") (short_text stream) ++ line (bytes ":119:") (long_text bin)

-- "451 (0 or 1), then 13E (date, HHMMSS) after 0"
unfoldable pub settled_text : ℕ → ℕ → List ℕ
settled_text day second = line (bytes ":451:") (bytes "0") ++ line (bytes ":13E:") (digits_of 6 (date_of day) ++ digits_of 6 (hhmmss_of second))

-- "or 432 (two digits) after 1"
unfoldable pub rejected_text : ℕ → List ℕ
rejected_text number = line (bytes ":451:") (bytes "1") ++ line (bytes ":432:") (digits_of 2 number)

abbrev pub outcome_text : Outcome → List ℕ
outcome_text (Settled day second) = settled_text day second
outcome_text (Rejected number) = rejected_text number

-- "132 lines: 20, 12, 77E, 21, 22A, 119, 451, then 13E after 0 or 432 after 1"
unfoldable pub settlement_text : Settlement → List ℕ
settlement_text r =
    head_text r.number 132 r.reference ++ (batch_text r.stream r.bin ++ outcome_text r.outcome)

abbrev pub answer_text : Answer → List ℕ
answer_text Recalled = line (bytes ":451:") (bytes "0")
answer_text (Kept number) = rejected_text number

-- "134: 20, 12, 77E, 21, 451, and 432 after 1"
unfoldable pub recall_text : Recall → List ℕ
recall_text r = head_text r.number 134 r.reference ++ answer_text r.answer

-- a text goes to its place whole, or not at all: 07
abbrev pub fits : List ℕ → ℕ → List ℕ → Bool
fits out at text = leb (at + length text) (length out)

abbrev pub written : List ℕ → ℕ → List ℕ → Result ℕ Refusal
written out at text = cond (fits out at text) (Ok (at + length text)) (Err ShortBuffer)

abbrev pub after : List ℕ → ℕ → List ℕ → List ℕ
after out at text = cond (fits out at text) (sets out at text) out
