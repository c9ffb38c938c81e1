-- What the entry point of the request reader answers, and what it leaves in the row.
use Rattle.std.specs.Prelude.{ℕ, List, [], ◌∷◌, ◌++◌}
use Rattle.chars.specs.Refusals.{number_of}
use Rattle.text_fields.specs.declared.Break.{Break}
use Rattle.request_read.specs.declared.terms.Activation.{Activation}
use Rattle.request_read.specs.declared.terms.Activation.TheVariants.{AtOnce, Minute}
use Rattle.request_read.specs.declared.terms.Terms.{Terms}
use Rattle.request_read.specs.payments.Payments.{payments_at}
use Rattle.request_read.specs.declared.payments.Payment.{Payment}
use Rattle.request_read.specs.whole.Request.{request_at}
use Rattle.request_read.specs.declared.whole.Named.{Named}
use Rattle.request_read.specs.declared.whole.Reached.{Reached}
use Rattle.request_read.specs.declared.whole.Reached.TheVariants.{Nothing, Stream, Bin}
use Rattle.request_read.specs.declared.whole.Address.{Address}
use Rattle.request_read.specs.declared.whole.Head.{Head}
use Rattle.request_read.specs.declared.whole.Outcome.{Outcome}
use Rattle.request_read.specs.declared.whole.Outcome.TheVariants.{Settlement, Recall, Refused}
use Rattle.request_read.specs.declared.whole.Reading.{Reading}
use Rattle.c_gateway.specs.declared.Paying.{Paying}
use Rattle.c_gateway.specs.Rows.{field_words, item_words, code_words, break_words, number_in, row_after}

abbrev pub named_words : Named → List ℕ
named_words n = code_words n.part n.code

-- 22A and 119
abbrev pub address_words : Address → List ℕ
address_words a = item_words a.stream ++ named_words a.bin

-- 20, 12, 22A and 119
abbrev pub head_words : Head → List ℕ
head_words h = named_words h.reference ++ (item_words h.subtype ++ address_words h.address)

-- 175: the minute, and 1 where the line is there
abbrev pub activation_minute : Activation → ℕ
activation_minute AtOnce = 0
activation_minute (Minute m) = m

abbrev pub activation_given : Activation → ℕ
activation_given AtOnce = 0
activation_given (Minute m) = 1

-- 16A with number and count, 171 with the day, 175
abbrev pub terms_words : Terms → List ℕ
terms_words t =
    field_words t.numbers t.number t.count
    ++ (item_words t.date
    ++ field_words t.activated (activation_minute t.activation) (activation_given t.activation))

-- 127, 32B, 113 and 102
abbrev pub payment_words : Payment → List ℕ
payment_words p = (item_words p.side ++ (item_words p.amount ++ item_words p.letters)) ++ item_words p.bank

abbrev pub payments_words : List Payment → List ℕ
payments_words [] = []
payments_words (p ∷ ps) = payment_words p ++ payments_words ps

-- how the payments of a text end, and how many there are
abbrev pub paying_at : List ℕ → ℕ → Paying
paying_at s at = record { ending = (payments_at s at).ending; n = (payments_at s at).n }

-- 203 stands before the payments, whose places are ten
unfoldable pub accepted_words : Reading → List ℕ
accepted_words r = (head_words r.head ++ (terms_words r.terms ++ item_words r.count)) ++ payments_words r.payments

abbrev pub reached_number : Reached → ℕ
reached_number Nothing = 0
reached_number Stream = 1
reached_number Bin = 2

-- the break, and the sub type, the stream and the BIN where they were read
unfoldable pub refused_words : Break → Head → List ℕ
refused_words b h = break_words b (reached_number h.address.reached) ++ (item_words h.subtype ++ address_words h.address)

abbrev pub by_outcome : {A : Type 0} → Outcome → A → (Break → A) → A
by_outcome Settlement accepted refused = accepted
by_outcome Recall accepted refused = accepted
by_outcome (Refused b) accepted refused = refused b

abbrev pub reading_number : Reading → ℕ
reading_number r = by_outcome r.outcome 0 (λ b. number_of b.refusal)

abbrev pub reading_words : Reading → List ℕ
reading_words r = by_outcome r.outcome (accepted_words r) (λ b. refused_words b r.head)

-- 0, or the number of the text's first break
unfoldable pub request_number : List ℕ → List ℕ → ℕ
request_number text row = number_in 192 row (reading_number (request_at text))

unfoldable pub request_row : List ℕ → List ℕ → List ℕ
request_row text row = row_after 192 row (reading_words (request_at text))
