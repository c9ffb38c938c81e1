-- What the entry point of the response reader answers, and what it leaves in the row.
use Rattle.std.specs.Prelude.{ℕ, List, ◌++◌}
use Rattle.chars.specs.Refusals.{number_of}
use Rattle.codes.specs.Codes.{no_code}
use Rattle.codes.specs.declared.Code.{Code}
use Rattle.response_write.specs.declared.Outcome.{Outcome}
use Rattle.response_write.specs.declared.Outcome.TheVariants.{Settled, Rejected}
use Rattle.response_write.specs.declared.Answer.{Answer}
use Rattle.response_write.specs.declared.Answer.TheVariants.{Recalled, Kept}
use Rattle.response_write.specs.declared.Settlement.{Settlement as Response132}
use Rattle.response_write.specs.declared.Recall.{Recall as Response134}
use Rattle.response_read.specs.Reply.{response_at}
use Rattle.response_read.specs.declared.Parts.{Parts}
use Rattle.response_read.specs.declared.Reply.{Reply}
use Rattle.response_read.specs.declared.Reply.TheVariants.{Settlement, Recall, Refused}
use Rattle.response_read.specs.declared.ReadResponse.{ReadResponse}
use Rattle.c_gateway.specs.Rows.{field_words, code_words, break_words, number_in, row_after}

-- 20 with its number, 12 and 21
abbrev pub number_words : Parts → ℕ → ℕ → Code → List ℕ
number_words p number kind reference =
    field_words p.number number 0 ++ (field_words p.subtype kind 0 ++ code_words p.reference reference)

-- 22A and 119
abbrev pub batch_words : Parts → ℕ → Code → List ℕ
batch_words p stream bin = field_words p.stream stream 0 ++ code_words p.bin bin

-- 451, and 13E or 432 with its one number or two
abbrev pub status_words : Parts → ℕ → ℕ → ℕ → List ℕ
status_words p status first second = field_words p.status status 0 ++ field_words p.detail first second

-- "451 (0 or 1), then 13E (date, HHMMSS) after 0 or 432 (two digits) after 1": the day and its second, or the number
abbrev pub outcome_status : Outcome → ℕ
outcome_status (Settled day second) = 0
outcome_status (Rejected n) = 1

abbrev pub outcome_first : Outcome → ℕ
outcome_first (Settled day second) = day
outcome_first (Rejected n) = n

abbrev pub outcome_second : Outcome → ℕ
outcome_second (Settled day second) = second
outcome_second (Rejected n) = 0

abbrev pub answer_status : Answer → ℕ
answer_status Recalled = 0
answer_status (Kept n) = 1

abbrev pub answer_number : Answer → ℕ
answer_number Recalled = 0
answer_number (Kept n) = n

unfoldable pub settlement_words : Parts → Response132 → List ℕ
settlement_words p s =
    number_words p s.number 132 s.reference
    ++ (batch_words p s.stream s.bin
    ++ status_words p (outcome_status s.outcome) (outcome_first s.outcome) (outcome_second s.outcome))

-- a 134 has neither 22A nor 119
unfoldable pub recall_words : Parts → Response134 → List ℕ
recall_words p r =
    number_words p r.number 134 r.reference
    ++ (batch_words p 0 no_code
    ++ status_words p (answer_status r.answer) (answer_number r.answer) 0)

abbrev pub number_of_reply : Reply → ℕ
number_of_reply (Settlement s) = 0
number_of_reply (Recall r) = 0
number_of_reply (Refused b) = number_of b.refusal

abbrev pub words_of_reply : Parts → Reply → List ℕ
words_of_reply p (Settlement s) = settlement_words p s
words_of_reply p (Recall r) = recall_words p r
words_of_reply p (Refused b) = break_words b 0

abbrev pub reply_number : ReadResponse → ℕ
reply_number r = number_of_reply r.reply

abbrev pub reply_words : ReadResponse → List ℕ
reply_words r = words_of_reply r.parts r.reply

-- 0, or the number of the text's first break
unfoldable pub response_number : List ℕ → List ℕ → ℕ
response_number text row = number_in 28 row (reply_number (response_at text))

unfoldable pub response_row : List ℕ → List ℕ → List ℕ
response_row text row = row_after 28 row (reply_words (response_at text))
