-- What the entry points of the writers answer and leave: the text of the values in a row, as the readers fill it.
use Rattle.chars.specs.declared.Refusal.{Refusal}
use Rattle.std.specs.Prelude.{ℕ, ◌+◌, ◌*◌, Bool, ◌&&◌, cond, List, [], ◌∷◌, eqb, leb, length, get_or, set, Result, Ok, Err}
use Rattle.chars.specs.Refusals.{number_of}
use Rattle.chars.specs.declared.Refusal.TheVariants.{ShortBuffer, OtherSubType}
use Rattle.codes.specs.declared.Code.{Code}
use Rattle.dates.specs.Dates.{date_of}
use Rattle.request_read.specs.declared.terms.Activation.{Activation}
use Rattle.request_read.specs.declared.terms.Activation.TheVariants.{AtOnce, Minute}
use Rattle.request_read.specs.whole.Request.{request_at}
use Rattle.response_write.specs.Texts.{settlement_text, recall_text}
use Rattle.response_write.specs.Values.{is_settlement, is_recall, written_if, after_if}
use Rattle.response_write.specs.declared.Outcome.{Outcome}
use Rattle.response_write.specs.declared.Outcome.TheVariants.{Settled, Rejected}
use Rattle.response_write.specs.declared.Answer.{Answer}
use Rattle.response_write.specs.declared.Answer.TheVariants.{Recalled, Kept}
use Rattle.response_write.specs.declared.Settlement.{Settlement}
use Rattle.response_write.specs.declared.Recall.{Recall}
use Rattle.request_write.specs.Orders.{order_text, answer_of, left_of}
use Rattle.request_write.specs.declared.Payable.{Payable}
use Rattle.request_write.specs.declared.Order.{Order}
use Rattle.request_write.specs.declared.Side.{Side}
use Rattle.request_write.specs.declared.Side.TheVariants.{Credit, Debit}

-- the value of the field that begins at a place, in a number or two
abbrev pub value_in : List ℕ → ℕ → ℕ
value_in row at = get_or row (at + 2) 0

abbrev pub second_in : List ℕ → ℕ → ℕ
second_in row at = get_or row (at + 3) 0

abbrev pub code_in : List ℕ → ℕ → Code
code_in row at = record { high = value_in row at; low = second_in row at }

-- 175: the minute, and 1 where the line is there
unfoldable pub activation_in : List ℕ → Activation
activation_in row = cond (eqb (second_in row 24) 0) AtOnce (Minute (value_in row 24))

-- 127, and 113 after DR
unfoldable pub side_in : List ℕ → ℕ → Side
side_in row at = cond (eqb (value_in row at) 0) Credit (Debit (value_in row (at + 8)))

-- 127, 32B, 113 and 102 of payment k
unfoldable pub payable_in : List ℕ → ℕ → Payable
payable_in row k = record { side = side_in row (32 + 16 * k); cents = value_in row (32 + 16 * k + 4); bank = value_in row (32 + 16 * k + 12) }

abbrev pub payables_in : List ℕ → List Payable
payables_in row = payable_in row 0 ∷ payable_in row 1 ∷ payable_in row 2 ∷ payable_in row 3 ∷ payable_in row 4 ∷ payable_in row 5 ∷ payable_in row 6 ∷ payable_in row 7 ∷ payable_in row 8 ∷ payable_in row 9 ∷ []

-- what a row of a request asks for
unfoldable pub order_in : List ℕ → Order
order_in row = record {
  subtype = value_in row 4;
  reference = code_in row 0;
  stream = value_in row 8;
  bin = code_in row 12;
  number = value_in row 16;
  count = second_in row 16;
  date = date_of (value_in row 20);
  activation = activation_in row;
  payments = payables_in row;
  n = value_in row 28;
}

-- the number of a refusal, or 0 and the text's length
abbrev pub number_by : Result ℕ Refusal → ℕ
number_by (Ok n) = 0
number_by (Err r) = number_of r

abbrev pub told_by : Result ℕ Refusal → List ℕ → List ℕ
told_by (Ok n) told = set told 0 n
told_by (Err r) told = told

-- "The request writer gives the number its reader would give, else 07 if the text does not fit, and then writes nothing."
unfoldable pub order_written : Order → List ℕ → Result ℕ Refusal
order_written o out = answer_of (request_at (order_text o)).outcome out 0 (order_text o)

unfoldable pub order_left : Order → List ℕ → List ℕ
order_left o out = left_of (request_at (order_text o)).outcome out 0 (order_text o)

-- 451, and "13E (date, HHMMSS) after 0 or 432 (two digits) after 1"
unfoldable pub outcome_in : List ℕ → Outcome
outcome_in row = cond (eqb (value_in row 20) 0) (Settled (value_in row 24) (second_in row 24)) (Rejected (value_in row 24))

-- 451, "and 432 after 1"
unfoldable pub answer_in : List ℕ → Answer
answer_in row = cond (eqb (value_in row 20) 0) Recalled (Kept (value_in row 24))

unfoldable pub settlement_in : List ℕ → Settlement
settlement_in row = record { number = value_in row 0; reference = code_in row 8; stream = value_in row 12; bin = code_in row 16; outcome = outcome_in row }

unfoldable pub recall_in : List ℕ → Recall
recall_in row = record { number = value_in row 0; reference = code_in row 8; answer = answer_in row }

-- "451 (0 or 1)"
abbrev pub has_status : List ℕ → Bool
has_status row = leb (value_in row 20) 1

-- what a text can hold
abbrev pub holds_settlement : List ℕ → Bool
holds_settlement row = has_status row && is_settlement (settlement_in row)

abbrev pub holds_recall : List ℕ → Bool
holds_recall row = has_status row && is_recall (recall_in row)

-- 132, 134, or "88 for another sub type"
unfoldable pub response_written : List ℕ → List ℕ → Result ℕ Refusal
response_written row out =
    cond (eqb (value_in row 4) 132)
    (written_if (holds_settlement row) out 0 (settlement_text (settlement_in row)))
    (cond (eqb (value_in row 4) 134)
    (written_if (holds_recall row) out 0 (recall_text (recall_in row)))
    (Err OtherSubType))

unfoldable pub response_left : List ℕ → List ℕ → List ℕ
response_left row out =
    cond (eqb (value_in row 4) 132)
    (after_if (holds_settlement row) out 0 (settlement_text (settlement_in row)))
    (cond (eqb (value_in row 4) 134)
    (after_if (holds_recall row) out 0 (recall_text (recall_in row)))
    out)

-- 07 before all else, and nothing touched, where the row or what is to be told has too few words
abbrev pub is_ready : ℕ → List ℕ → List ℕ → Bool
is_ready words row told = leb words (length row) && leb 1 (length told)

unfoldable pub number_for : Bool → Result ℕ Refusal → ℕ
number_for ready w = cond ready (number_by w) (number_of ShortBuffer)

unfoldable pub left_for : Bool → List ℕ → List ℕ → List ℕ
left_for ready left out = cond ready left out

unfoldable pub told_for : Bool → Result ℕ Refusal → List ℕ → List ℕ
told_for ready w told = cond ready (told_by w told) told
