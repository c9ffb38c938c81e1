-- What the entry points that explain a break answer, and what they leave in the row.
use Rattle.std.specs.Prelude.{ℕ, List, [], ◌∷◌, cond}
use Rattle.chars.specs.Refusals.{number_of}
use Rattle.text_fields.specs.declared.Break.{Break}
use Rattle.request_read.specs.whole.Request.{request_at}
use Rattle.request_read.specs.declared.whole.Outcome.{Outcome}
use Rattle.request_read.specs.declared.whole.Outcome.TheVariants.{Settlement, Recall, Refused}
use Rattle.response_read.specs.Reply.{response_at}
use Rattle.response_read.specs.declared.Reply.{Reply}
use Rattle.response_read.specs.declared.Reply.TheVariants.{Settlement as Settled, Recall as Recalled, Refused as Unread}
use Rattle.text_explain.specs.Faults.{told_at}
use Rattle.text_explain.specs.declared.Tag.{Tag}
use Rattle.text_explain.specs.declared.Tag.TheVariants.{T20, T12, T77E, T22A, T119, T16A, T171, T175, T127, T32B, T113, T102, T203, T21, T451, T13E, T432}
use Rattle.text_explain.specs.declared.Tags.{Tags}
use Rattle.text_explain.specs.declared.Tags.TheVariants.{Ending, One, Two}
use Rattle.text_explain.specs.declared.Stage.TheVariants.{At20, On20}
use Rattle.text_explain.specs.declared.Fault.{Fault}
use Rattle.text_explain.specs.declared.Fault.TheVariants.{Missing, Wrong, Unknown, AfterCredit}
use Rattle.text_explain.specs.declared.Told.{Told}
use Rattle.c_gateway.specs.declared.Report.{Report}
use Rattle.c_gateway.specs.Rows.{number_in, row_after}

-- the tags' numbers, 0 for none
abbrev pub tag_number : Tag → ℕ
tag_number T20 = 1
tag_number T12 = 2
tag_number T77E = 3
tag_number T22A = 4
tag_number T119 = 5
tag_number T16A = 6
tag_number T171 = 7
tag_number T175 = 8
tag_number T127 = 9
tag_number T32B = 10
tag_number T113 = 11
tag_number T102 = 12
tag_number T203 = 13
tag_number T21 = 14
tag_number T451 = 15
tag_number T13E = 16
tag_number T432 = 17

abbrev pub first_of : Tags → ℕ
first_of Ending = 0
first_of (One t) = tag_number t
first_of (Two t u) = tag_number t

abbrev pub second_of : Tags → ℕ
second_of Ending = 0
second_of (One t) = 0
second_of (Two t u) = tag_number u

-- the tags that may stand there; where nothing is missing, the one that stands there
abbrev pub first_tag : Fault → ℕ
first_tag (Missing x) = first_of x
first_tag (Wrong t) = tag_number t
first_tag Unknown = tag_number T12
first_tag AfterCredit = tag_number T113

abbrev pub second_tag : Fault → ℕ
second_tag (Missing x) = second_of x
second_tag (Wrong t) = 0
second_tag Unknown = 0
second_tag AfterCredit = 0

-- of a text that is accepted
abbrev pub no_report : Report
no_report = record { number = 0; at = 0; line = 0; missing = 0; first = 0; second = 0; value = 0 }

abbrev pub report_of : Break → Told → Report
report_of b t = record { number = number_of b.refusal; at = b.at; line = t.line; missing = cond b.missing 1 0; first = first_tag t.fault; second = second_tag t.fault; value = t.value }

abbrev pub by_outcome : Outcome → (Break → Report) → Report
by_outcome Settlement f = no_report
by_outcome Recall f = no_report
by_outcome (Refused b) f = f b

abbrev pub by_reply : Reply → (Break → Report) → Report
by_reply (Settled r) f = no_report
by_reply (Recalled r) f = no_report
by_reply (Unread b) f = f b

unfoldable pub request_report : List ℕ → Report
request_report text = by_outcome (request_at text).outcome (λ b. report_of b (told_at text At20 b))

unfoldable pub response_report : List ℕ → Report
response_report text = by_reply (response_at text).reply (λ b. report_of b (told_at text On20 b))

-- the row
abbrev pub report_words : Report → List ℕ
report_words x = x.at ∷ x.line ∷ x.missing ∷ x.first ∷ x.second ∷ x.value ∷ []

unfoldable pub explained_number : Report → List ℕ → ℕ
explained_number x row = number_in 6 row x.number

unfoldable pub explained_row : Report → List ℕ → List ℕ
explained_row x row = row_after 6 row (report_words x)
